use Rattle.std.proofs.Common.{sym, ap, ◌∙◌, arith}
use Rattle.std.proofs.lemmas.Result.{err_from_is_err_and}
use Rattle.rows.specs.Rows.{row, born_of}
use Rattle.invariants.proofs.Kept.{run_born}
use Rattle.machine.specs.Runs.{Finished}
use Rattle.executor.specs.Entries.{run_answered, run_entry}
use Rattle.executor.specs.Resuming.{numbered}
use Rattle.executor.proofs.Accepted.{runnable}
use Rattle.executor.proofs.Resuming.{stop_and_go_on, used_within}
use Rattle.executor.proofs.run.Goals as goal

pub run-requires-clause-shape : goal.run-requires-clause-shape
run-requires-clause-shape c =
    let a = c.args in
    (runnable a.memory a.log (row a.words.now a.marks.now) (sym c.check_run.ensures ∙ c.in_ok-check_run.was)).sizes.shape

pub run-requires-clause-step_bound : goal.run-requires-clause-step_bound
run-requires-clause-step_bound c =
    let a = c.args in
    omega (arith, (runnable a.memory a.log (row a.words.now a.marks.now) (sym c.check_run.ensures ∙ c.in_ok-check_run.was)).low)

pub returns-in_err-check_run-clause-row_and_answer : goal.returns-in_err-check_run-clause-row_and_answer
unfolding run_entry run_answered
returns-in_err-check_run-clause-row_and_answer c =
    let e = err_from_is_err_and c.from_residual.result c.from_residual.ensures.1 in
    rw (e.1, e.2, sym c.check_run.ensures ∙ c.in_err-check_run.was)

pub returns-clause-row_and_answer : goal.returns-clause-row_and_answer
unfolding run_entry run_answered
returns-clause-row_and_answer c = rw (sym c.check_run.ensures ∙ c.in_ok-check_run.was, ← c.run.ensures)

pub returns-clause-born : goal.returns-clause-born
returns-clause-born c =
    let a = c.args in
    ap (λ (x : Finished). born_of x.row) c.run.ensures ∙ run_born a.step a.tape.now 0 (row a.words.now a.marks.now)

pub returns-clause-goes_on : goal.returns-clause-goes_on
returns-clause-goes_on c =
    let a = c.args in
    stop_and_go_on a.memory a.log a.step a.tape.now (row a.words.now a.marks.now) (ap numbered (returns-clause-row_and_answer c))

pub returns-in_err-check_run-clause-goes_on : goal.returns-in_err-check_run-clause-goes_on
returns-in_err-check_run-clause-goes_on c =
    let a = c.args in
    stop_and_go_on a.memory a.log a.step a.tape.now (row a.words.now a.marks.now) (ap numbered (returns-in_err-check_run-clause-row_and_answer c))

pub returns-clause-used_in_bounds : goal.returns-clause-used_in_bounds
returns-clause-used_in_bounds c =
    let a = c.args in
    used_within a.memory a.log a.step a.tape.now (row a.words.now a.marks.now) (returns-clause-row_and_answer c)

pub returns-in_err-check_run-clause-used_in_bounds : goal.returns-in_err-check_run-clause-used_in_bounds
returns-in_err-check_run-clause-used_in_bounds c =
    let a = c.args in
    used_within a.memory a.log a.step a.tape.now (row a.words.now a.marks.now) (returns-in_err-check_run-clause-row_and_answer c)
