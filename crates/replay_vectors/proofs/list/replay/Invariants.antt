use Rattle.std.proofs.Common.{◌-◌}
use Rattle.replay_vectors.proofs.list.replay.Given as goal

abbrev pub decreases-loop-at : goal.decreases-loop-at
decreases-loop-at g l = 0x1_0000_0000 - l.at
