use Rattle.std.proofs.Common.{length, sym, ap, ◌∙◌, arith}
use Rattle.rows.specs.Rows.{row}
use Rattle.executor.specs.Entries.{run_entry}
use Rattle.executor.proofs.Accepted.{runnable}
use Rattle.runner.specs.Entry.{served_entry, go_on}
use Rattle.runner.specs.Resuming.{numbered}
use Rattle.runner.proofs.Completing.{is_one_run}
use Rattle.runner.proofs.Kept.{served_born}
use Rattle.runner.proofs.Resuming.{row_goes_on}
use Rattle.runner.proofs.TapeUse.{input_used}
use Rattle.runner.proofs.Turns.{within}
use Rattle.runner.proofs.go_on.Goals as goal

pub serve_slices-requires-clause-shape : goal.serve_slices-requires-clause-shape
serve_slices-requires-clause-shape c =
    let a = c.args in
    (runnable a.memory a.log (row a.words.now a.marks.now) (sym c.check_run.ensures ∙ c.in-Ok.is)).sizes.shape

pub serve_slices-requires-clause-step_bound : goal.serve_slices-requires-clause-step_bound
serve_slices-requires-clause-step_bound c =
    let a = c.args in
    omega (arith, (runnable a.memory a.log (row a.words.now a.marks.now) (sym c.check_run.ensures ∙ c.in-Ok.is)).low, c.ranges.step)

pub returns-in-Ok-clause-result_after : goal.returns-in-Ok-clause-result_after
unfolding go_on served_entry
returns-in-Ok-clause-result_after c = rw (sym c.check_run.ensures ∙ c.in-Ok.is) c.serve_slices.ensures

pub returns-in-Err-clause-result_after : goal.returns-in-Err-clause-result_after
unfolding go_on served_entry
returns-in-Err-clause-result_after c = rw (sym c.check_run.ensures ∙ c.in-Err.is, c.refused.ensures)

pub returns-in-Ok-clause-one_run : goal.returns-in-Ok-clause-one_run
unfolding go_on run_entry
returns-in-Ok-clause-one_run c = is_one_run _ _ _ _ _ (returns-in-Ok-clause-result_after c)

pub returns-in-Err-clause-one_run : goal.returns-in-Err-clause-one_run
unfolding go_on run_entry
returns-in-Err-clause-one_run c = is_one_run _ _ _ _ _ (returns-in-Err-clause-result_after c)

pub returns-in-Ok-clause-goes_on : goal.returns-in-Ok-clause-goes_on
returns-in-Ok-clause-goes_on c =
    let a = c.args in
    row_goes_on a.memory a.log a.step a.input.now (row a.words.now a.marks.now) a.output.now (ap numbered (returns-in-Ok-clause-result_after c))

pub returns-in-Ok-clause-born : goal.returns-in-Ok-clause-born
returns-in-Ok-clause-born c =
    let a = c.args in
    served_born a.step a.input.now (length a.output.now) 0 (row a.words.now a.marks.now) a.output.now c.serve_slices.ensures

pub returns-in-Ok-clause-written_in_bounds : goal.returns-in-Ok-clause-written_in_bounds
returns-in-Ok-clause-written_in_bounds c = within _ _ c.serve_slices.ensures c.serve_slices.auto.output

pub returns-in-Ok-clause-used_in_bounds : goal.returns-in-Ok-clause-used_in_bounds
unfolding go_on
returns-in-Ok-clause-used_in_bounds c = input_used _ _ _ _ _ (returns-in-Ok-clause-result_after c)

pub returns-in-Err-clause-used_in_bounds : goal.returns-in-Err-clause-used_in_bounds
unfolding go_on
returns-in-Err-clause-used_in_bounds c = input_used _ _ _ _ _ (returns-in-Err-clause-result_after c)
