use Rattle.std.proofs.Common.{length, ◌-◌}
use Rattle.marked.specs.Marks.{Unmarked}
use Rattle.marked.proofs.next.skip_blocks.Given as goal

abbrev pub invariant-loop-i : goal.invariant-loop-i
invariant-loop-i l = Unmarked l.marks l.from l.i

abbrev pub decreases-loop-i : goal.decreases-loop-i
decreases-loop-i l = length l.marks - l.i
