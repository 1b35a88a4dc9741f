use Rattle.std.proofs.Common.{rules, arith}
use Rattle.rows.specs.Lent.{lent}
use Rattle.runner.proofs.Turns.{answered, begins, limited, stopped, filled, limit_kept, fewer_left, turned}
use Rattle.runner.proofs.serve.Goals as goal

pub loop-buffer-init : goal.loop-buffer-init
loop-buffer-init c =
    record { same_slices = search rules; same_length = search rules; step_bound = search rules; serves = begins _ _ _ (lent c.args.row.now) }

pub returns-in-Running-clause-result_after : goal.returns-in-Running-clause-result_after
returns-in-Running-clause-result_after c =
    let l = c.loop-buffer in
    answered (limited l.invariant.serves l.row.shape c.run_to_write-paused.ensures.result_after c.in-Running.is) c.ended.ensures

pub returns-then-size-output-clause-result_after : goal.returns-then-size-output-clause-result_after
returns-then-size-output-clause-result_after c =
    let l = c.loop-buffer in
    answered
    (filled l.invariant.serves l.row.shape c.run_to_write-paused.ensures.result_after c.in-Write.is (omega (arith, c.if-size-output.true, l.invariant.same_length)))
    c.ended-then-size-output.ensures

pub loop-buffer-smaller : goal.loop-buffer-smaller
loop-buffer-smaller c =
    let l = c.loop-buffer in
    fewer_left l.invariant.serves l.row.shape c.run_to_write-paused.ensures.result_after c.in-Write.is c.print-at.ensures.row_after

pub loop-buffer-preserved : goal.loop-buffer-preserved
loop-buffer-preserved c =
    let l = c.loop-buffer in
    let limit = limit_kept l.invariant.serves l.row.shape c.run_to_write-paused.ensures.result_after c.in-Write.is c.print-at.ensures.row_after in
    record {
      same_slices = search rules;
      same_length = search rules;
      step_bound = omega (arith, limit, l.invariant.step_bound);
      serves = turned l.invariant.serves l.row.shape c.run_to_write-paused.ensures.result_after c.in-Write.is c.print-at.ensures.row_after c.print-at.ensures.wrote;
    }

pub returns-in-Ended-clause-result_after : goal.returns-in-Ended-clause-result_after
returns-in-Ended-clause-result_after c =
    let l = c.loop-buffer in
    answered (stopped l.invariant.serves l.row.shape c.run_to_write-paused.ensures.result_after c.in-Ended.is) c.ended-in-Ended.ensures
