use Rattle.store.proofs.Moves.{Copied}
use Rattle.store.proofs.copy.copy_part.Given as goal

abbrev pub invariant-loop-i : goal.invariant-loop-i
invariant-loop-i g l = Copied l.from l.to l.i l.initial.all l.all
