use Rattle.std.proofs.Common.{◌≡◌, length, take}
use Rattle.replay_lists.specs.Columns.{bytes_at}
use Rattle.replay_lists.proofs.columns.bytes_at.Given as goal

abbrev pub invariant-loop-i : goal.invariant-loop-i
invariant-loop-i l = (512 ≡ length l.bytes) × (take l.i l.bytes ≡ bytes_at l.i l.numbers l.at)
