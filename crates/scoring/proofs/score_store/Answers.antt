use Rattle.std.proofs.Common.{◌∙◌}
use Rattle.laws.proofs.Fronts.{front_part}
use Rattle.scoring.specs.Entry.{scores_left}
use Rattle.scoring.proofs.Turns.{all_scored, all_counted, ordered, unordered}
use Rattle.scoring.proofs.score_store.Goals as goal

pub returns-then-not-are_ordered-clause-value : goal.returns-then-not-are_ordered-clause-value
returns-then-not-are_ordered-clause-value c =
    let few = c.args.store.fit.sized.few in
    unordered c.are_ordered.ensures
    (front_part _ _ _ few c.score_rows-increments.auto.scores ∙ c.score_rows-increments.ensures.scores ∙ all_scored _ _ _ _ few)
    c.if-not-are_ordered.true

pub returns-clause-value : goal.returns-clause-value
returns-clause-value c =
    let few = c.args.store.fit.sized.few in
    ordered c.are_ordered.ensures
    (front_part _ _ _ few c.score_rows-increments.auto.scores ∙ c.score_rows-increments.ensures.scores ∙ all_scored _ _ _ _ few)
    c.if-not-are_ordered.false

pub returns-clause-increments : goal.returns-clause-increments
returns-clause-increments c h = c.score_rows-increments.ensures.increments h ∙ all_counted _ _ _ c.args.store.fit.sized.few

pub returns-clause-scores_after : goal.returns-clause-scores_after
unfolding scores_left
returns-clause-scores_after c =
    let few = c.args.store.fit.sized.few in
    c.copy_from_slice.ensures.after ∙ front_part _ _ _ few c.score_rows-increments.auto.scores ∙ c.score_rows-increments.ensures.scores ∙ all_scored _ _ _ _ few
