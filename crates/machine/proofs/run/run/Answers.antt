use Rattle.std.proofs.Common.{ap, ◌∙◌}
use Rattle.rows.specs.Rows.{row}
use Rattle.machine.proofs.Handing.{ran_of, completed_run}
use Rattle.machine.proofs.run.run.Goals as goal

pub returns : goal.returns
returns c = rw c.progress_of.ensures (ap ran_of c.run_to-paused.ensures ∙ completed_run _ _ _ (row c.args.words.now c.args.marks.now))
