use Rattle.std.proofs.Common.{arith}
use Rattle.selection.proofs.Finding.{scan_turn, scan_ends}
use Rattle.selection.proofs.order.next_rarest.Goals as goal

pub loop-row-preserved : goal.loop-row-preserved
loop-row-preserved c = scan_turn _ _ c.loop-row.row _ _ c.loop-row-test.true (omega arith) c.loop-row.invariant c.consider-lowest.ensures

pub returns : goal.returns
returns c = scan_ends _ _ c.loop-row.row _ c.loop-row-test.false c.loop-row.invariant
