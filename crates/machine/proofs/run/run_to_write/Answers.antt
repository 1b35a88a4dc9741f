use Rattle.std.proofs.Common.{◌∙◌}
use Rattle.rows.specs.Lent.{lent}
use Rattle.machine.proofs.Handing.{paused_run}
use Rattle.machine.proofs.HandedOut.{handed_out}
use Rattle.machine.proofs.run.run_to_write.Goals as goal

pub returns-clause-result_after : goal.returns-clause-result_after
returns-clause-result_after c = c.run_to.ensures ∙ paused_run _ _ _ (lent c.args.row.now)

pub returns-clause-handed_out : goal.returns-clause-handed_out
returns-clause-handed_out c =
    let given = lent c.args.row.now in
    handed_out _ _ _ given _ (c.run_to.ensures ∙ paused_run _ _ _ given)
