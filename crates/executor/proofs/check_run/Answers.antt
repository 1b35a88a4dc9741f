use Rattle.std.proofs.Common.{sym}
use Rattle.std.proofs.lemmas.Result.{err_from_is_err_and}
use Rattle.rows.specs.Rows.{row}
use Rattle.executor.proofs.Accepted.{sizes_accepted, run_refused, run_tested}
use Rattle.executor.proofs.check_run.Goals as goal

pub invariant_of-valid_row : goal.invariant_of-valid_row
invariant_of-valid_row c =
    let a = c.args in
    record { shape = (sizes_accepted a.memory a.log (row a.words.now a.marks.now) c.check_sizes.ensures c.in_ok-check_sizes.was).shape }

pub returns-in_err-check_sizes : goal.returns-in_err-check_sizes
returns-in_err-check_sizes c =
    let a = c.args in
    let e = err_from_is_err_and c.from_residual.result c.from_residual.ensures.1 in
    rw (e.1, e.2) (sym (run_refused a.memory a.log (row a.words.now a.marks.now) c.check_sizes.ensures c.in_err-check_sizes.was))

pub returns : goal.returns
returns c =
    let a = c.args in
    sym (run_tested a.memory a.log (row a.words.now a.marks.now) c.check_sizes.ensures c.in_ok-check_sizes.was c.valid_row.ensures c.test.ensures)
