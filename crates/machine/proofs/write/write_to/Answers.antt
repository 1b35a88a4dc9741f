use Rattle.std.proofs.Common.{rules}
use Rattle.rows.specs.Lent.{seen}
use Rattle.machine.proofs.Bytes.{bytes_on}
use Rattle.machine.proofs.write.write_to.Goals as goal

pub loop-k-preserved : goal.loop-k-preserved
loop-k-preserved c = bytes_on (seen c.view-view.result) _ _ _ _ (search rules) c.loop-k.invariant c.byte_at.ensures
