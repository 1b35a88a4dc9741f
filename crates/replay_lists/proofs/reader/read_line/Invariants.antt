use Rattle.std.proofs.Common.{◌-◌, ◌≤◌}
use Rattle.replay_lists.proofs.reader.read_line.Given as goal

abbrev pub invariant-loop-at : goal.invariant-loop-at
invariant-loop-at l = l.from ≤ l.at

abbrev pub decreases-loop-at : goal.decreases-loop-at
decreases-loop-at l = 0x1_0000_0000 - l.at
