use Rattle.std.proofs.Common.{refl, ap, ◌∙◌, set}
use Rattle.rows.specs.Rows.{Row}
use Rattle.store.specs.Lent.{rows_lent}
use Rattle.store.proofs.Rows.{lent_words, lent_marks, row_back}
use Rattle.store.proofs.view.StoreMut.zero_row.Goals as goal

pub returns-clause-rows_after : goal.returns-clause-rows_after
returns-clause-rows_after c =
    let f = c.args.self.now.fit in
    row_back f _ c.requires.within _ _ c.fill.auto.self c.fill-2.auto.self
    ∙ ap (λ (z : Row). set (rows_lent c.args.self.now) c.args.r z)
    (rw (c.fill.ensures.after, c.fill-2.ensures.after, lent_words f c.args.r c.requires.within, lent_marks f c.args.r c.requires.within) refl)
