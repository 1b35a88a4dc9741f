use Rattle.std.proofs.Common.{set, ap, ◌∙◌}
use Rattle.rows.specs.Rows.{Row}
use Rattle.loader.specs.Lent.{program_seen}
use Rattle.store.specs.Lent.{rows_lent}
use Rattle.store.proofs.Rows.{lent_row, row_back}
use Rattle.filling.specs.Filling.{created_anew}
use Rattle.filling.proofs.load_row.Goals as goal

pub returns-clause-rows_after : goal.returns-clause-rows_after
returns-clause-rows_after c =
    let a = c.args in
    let f = a.store.now.fit in
    let t = c.load_anew in
    row_back f a.r c.requires.r_lt_rows t.new.words t.new.marks t.auto.words t.auto.marks
    ∙ ap (λ (z : Row). set (rows_lent a.store.now) a.r z)
    (t.ensures ∙ ap (created_anew a.number (program_seen a.program)) (lent_row f a.r c.requires.r_lt_rows))
