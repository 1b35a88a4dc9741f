use Rattle.std.proofs.Common.{ap, refl, ◌∙◌, rules, arith}
use Rattle.rows.specs.Rows.{depth_of}
use Rattle.rows.specs.Lent.{lent}
use Rattle.calls.specs.Calls.{Called}
use Rattle.machine.proofs.Kept.{stepped_by_depth}
use Rattle.machine.proofs.Turns.{at_limit, turned, halted}
use Rattle.machine.proofs.run.run_loop.Goals as goal

pub loop-row-smaller : goal.loop-row-smaller
loop-row-smaller c =
    let r = c.loop-row.row in
    omega (arith, c.loop-row-test.true, ap (λ (y : Called). depth_of y.row) c.in-Running.ensures.row_after ∙ stepped_by_depth _ _ _ (lent r) (omega (arith, r.shape.registers, r.shape.slots)))

pub loop-row-preserved : goal.loop-row-preserved
loop-row-preserved c =
    let r = c.loop-row.row in
    record {
      same_slices = search rules;
      left = turned _ _ _ _ (lent r) _ c.loop-row-test.true c.in-Running.ensures.row_after (omega (arith, r.shape.registers, r.shape.slots)) refl ∙ c.loop-row.invariant.left;
    }

pub returns-in_default-clause-result_after : goal.returns-in_default-clause-result_after
returns-in_default-clause-result_after c =
    halted _ _ _ _ (lent c.loop-row.row) _ c.loop-row-test.true c.take_step-step.ensures.row_after c.in_default.not-Running ∙ c.loop-row.invariant.left

pub returns-clause-result_after : goal.returns-clause-result_after
returns-clause-result_after c = at_limit _ _ _ _ (lent c.loop-row.row) c.loop-row-test.false ∙ c.loop-row.invariant.left
