use Rattle.std.proofs.Common.{◌≡◌, ◌-◌, length}
use Rattle.replay_lists.proofs.replay.tally.Given as goal

abbrev pub invariant-loop-line : goal.invariant-loop-line
invariant-loop-line g l = length l.numbers ≡ g.row.N

abbrev pub decreases-loop-line : goal.decreases-loop-line
decreases-loop-line g l = 0x1_0000_0000 - l.at
