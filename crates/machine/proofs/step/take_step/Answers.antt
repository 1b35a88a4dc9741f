use Rattle.std.proofs.Common.{◌∙◌}
use Rattle.rows.specs.Lent.{lent}
use Rattle.machine.proofs.Turns.{by_word, by_invalid, by_refusal}
use Rattle.machine.proofs.step.take_step.Goals as goal

pub returns-in-Err-clause-row_after : goal.returns-in-Err-clause-row_after
returns-in-Err-clause-row_after c =
    rw c.in-Err.ensures.row_after (by_refusal _ _ _ (lent c.args.row.now) _ c.in-Err.ensures.value)

pub returns-in-None-clause-row_after : goal.returns-in-None-clause-row_after
returns-in-None-clause-row_after c =
    rw c.in-Ok.ensures.row_after (by_invalid _ _ _ (lent c.args.row.now) _ c.in-Ok.ensures.value c.in-None.ensures.value)

pub returns-in-Some-clause-row_after : goal.returns-in-Some-clause-row_after
returns-in-Some-clause-row_after c =
    c.advance.ensures.row_after
    ∙ by_word _ _ _ (lent c.args.row.now) _ _ _ c.in-Ok.ensures.value c.in-Some.ensures.value c.in-Ok.ensures.row_after
