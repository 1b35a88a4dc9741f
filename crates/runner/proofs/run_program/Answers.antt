use Rattle.std.proofs.Common.{length, sym, ap, ◌∙◌, arith}
use Rattle.rows.specs.Rows.{row}
use Rattle.loader.specs.Lent.{program_seen}
use Rattle.runner.specs.Entry.{run_program}
use Rattle.runner.specs.Resuming.{numbered}
use Rattle.executor.proofs.Born.{not_accepted}
use Rattle.runner.proofs.Kept.{served_born}
use Rattle.runner.proofs.Entering.{new_low, new_shape, served, turned_away}
use Rattle.runner.proofs.Completing.{is_one_run}
use Rattle.runner.proofs.Resuming.{program_goes_on}
use Rattle.runner.proofs.TapeUse.{input_used}
use Rattle.runner.proofs.Turns.{within}
use Rattle.runner.proofs.run_program.Goals as goal

pub serve_slices-requires-clause-shape : goal.serve_slices-requires-clause-shape
serve_slices-requires-clause-shape c =
    let a = c.args in
    let made = c.new_executor.ensures in
    new_shape a.memory a.log (program_seen a.program) (row a.words.now a.marks.now) made.value made.row_after c.in-Ok.is

pub serve_slices-requires-clause-step_bound : goal.serve_slices-requires-clause-step_bound
serve_slices-requires-clause-step_bound c =
    let a = c.args in
    let made = c.new_executor.ensures in
    let low = new_low a.memory a.log (program_seen a.program) (row a.words.now a.marks.now) made.value made.row_after c.in-Ok.is in
    omega (arith, low, c.ranges.step)

pub returns-in-Ok-clause-result_after : goal.returns-in-Ok-clause-result_after
returns-in-Ok-clause-result_after c =
    let a = c.args in
    let made = c.new_executor.ensures in
    served a.memory a.log (program_seen a.program) (row a.words.now a.marks.now) made.value made.row_after a.step a.input.now a.output.now c.in-Ok.is c.serve_slices.ensures

pub returns-in-Ok-clause-one_run : goal.returns-in-Ok-clause-one_run
unfolding run_program
returns-in-Ok-clause-one_run c = is_one_run _ _ _ _ _ (returns-in-Ok-clause-result_after c)

pub returns-in-Ok-clause-written_in_bounds : goal.returns-in-Ok-clause-written_in_bounds
returns-in-Ok-clause-written_in_bounds c = within _ _ c.serve_slices.ensures c.serve_slices.auto.output

pub returns-in-Err-clause-result_after : goal.returns-in-Err-clause-result_after
returns-in-Err-clause-result_after c =
    let a = c.args in
    let made = c.new_executor.ensures in
    turned_away a.memory a.log (program_seen a.program) (row a.words.now a.marks.now) made.value made.row_after a.step a.input.now a.output.now c.in-Err.is c.refused.ensures

pub returns-in-Err-clause-one_run : goal.returns-in-Err-clause-one_run
unfolding run_program
returns-in-Err-clause-one_run c = is_one_run _ _ _ _ _ (returns-in-Err-clause-result_after c)

pub returns-in-Ok-clause-goes_on : goal.returns-in-Ok-clause-goes_on
returns-in-Ok-clause-goes_on c =
    let a = c.args in
    program_goes_on a.memory a.log a.step (program_seen a.program) a.input.now (row a.words.now a.marks.now) a.output.now (ap numbered (returns-in-Ok-clause-result_after c))

pub returns-in-Ok-clause-born : goal.returns-in-Ok-clause-born
returns-in-Ok-clause-born c =
    let a = c.args in
    let new = c.new_executor.new in
    λ accepted.
    served_born a.step a.input.now (length a.output.now) 0 (row new.words new.marks) a.output.now c.serve_slices.ensures
    ∙ c.new_executor.ensures.born accepted

pub returns-in-Err-clause-born : goal.returns-in-Err-clause-born
returns-in-Err-clause-born c =
    let a = c.args in
    not_accepted a.memory a.log (program_seen a.program) (row a.words.now a.marks.now) (sym c.in-Err.is ∙ c.new_executor.ensures.value)

pub returns-in-Ok-clause-used_in_bounds : goal.returns-in-Ok-clause-used_in_bounds
unfolding run_program
returns-in-Ok-clause-used_in_bounds c = input_used _ _ _ _ _ (returns-in-Ok-clause-result_after c)

pub returns-in-Err-clause-used_in_bounds : goal.returns-in-Err-clause-used_in_bounds
unfolding run_program
returns-in-Err-clause-used_in_bounds c = input_used _ _ _ _ _ (returns-in-Err-clause-result_after c)
