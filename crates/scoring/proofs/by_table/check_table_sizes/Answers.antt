use Rattle.std.proofs.Common.{sym, ◌∙◌, []}
use Rattle.std.proofs.lemmas.Result.{err_from_is_err_and}
use Rattle.checks.proofs.Tests.{then_others, still_refused}
use Rattle.scoring.proofs.Accepted.{sizes_accepted}
use Rattle.scoring.proofs.by_table.check_table_sizes.Goals as goal

pub returns-in_err-check_sizes : goal.returns-in_err-check_sizes
returns-in_err-check_sizes c =
    let e = err_from_is_err_and c.from_residual.result c.from_residual.ensures.1 in
    rw (e.1, e.2) (sym (still_refused _ c.check_sizes.ensures _ c.in_err-check_sizes.was))

pub check_table-requires : goal.check_table-requires
check_table-requires c =
    let a = c.args in
    (sizes_accepted a.memory a.log a.rows a.words.now a.marks.now a.scores [] c.check_sizes.ensures c.in_ok-check_sizes.was).memory_most

pub returns : goal.returns
returns c = c.check_table.ensures ∙ sym (then_others _ c.check_sizes.ensures _ c.in_ok-check_sizes.was)
