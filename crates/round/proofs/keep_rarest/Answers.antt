use Rattle.std.proofs.Common.{replicate, sym, ap, ◌∙◌}
use Rattle.std.specs.Float.{binary64}
use Rattle.std.specs.Float.Ieee.{of_bits}
use Rattle.rows.specs.Limits.{most_rows}
use Rattle.rarity.specs.Scores.{flagged_scores}
use Rattle.round.proofs.Parts.{front_is}
use Rattle.round.proofs.Keeping.{scores_many, unordered, holds, follows_on}
use Rattle.round.proofs.keep_rarest.Goals as goal

pub returns-then-not-are_ordered-clause-result_after : goal.returns-then-not-are_ordered-clause-result_after
returns-then-not-are_ordered-clause-result_after c =
    let a = c.args in
    let s = a.store.now in
    let scored = c.score_rows.ensures.scores ∙ ap (flagged_scores a.options.mean a.running.now) c.view.ensures.rows in
    let many = scores_many a.options s a.running.now a.used c.requires.running_len in
    unordered a.options s a.running.now a.used c.requires.running_len
    (front_is s.layout.rows (replicate most_rows (of_bits binary64 0)) _ scored many) (sym c.are_ordered.ensures ∙ c.if-not-are_ordered.true)

pub returns-clause-result_after : goal.returns-clause-result_after
returns-clause-result_after c =
    let a = c.args in
    let s = a.store.now in
    let scored = c.score_rows.ensures.scores ∙ ap (flagged_scores a.options.mean a.running.now) c.view.ensures.rows in
    let many = scores_many a.options s a.running.now a.used c.requires.running_len in
    let r = c.select_rarest-kept.ensures in
    follows_on a.options s a.running.now a.used c.requires.running_len
    (front_is s.layout.rows (replicate most_rows (of_bits binary64 0)) _ scored many)
    _ r.same_store r.value r.rows (sym c.are_ordered.ensures ∙ c.if-not-are_ordered.false)

pub returns-clause-ready : goal.returns-clause-ready
returns-clause-ready c =
    let a = c.args in
    let s = a.store.now in
    let scored = c.score_rows.ensures.scores ∙ ap (flagged_scores a.options.mean a.running.now) c.view.ensures.rows in
    let many = scores_many a.options s a.running.now a.used c.requires.running_len in
    let r = c.select_rarest-kept.ensures in
    holds a.options s a.running.now a.used c.requires.running_len
    (front_is s.layout.rows (replicate most_rows (of_bits binary64 0)) _ scored many)
    _ r.same_store r.value r.rows
