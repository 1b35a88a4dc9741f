use Rattle.store.proofs.Moves.{copy_on}
use Rattle.store.proofs.copy.copy_part.Goals as goal

pub loop-i-preserved : goal.loop-i-preserved
loop-i-preserved g c =
    copy_on _ _ _ _ _ _ _ c.requires.apart c.requires.within c.loop-i-test.true c.index-all-from.is c.loop-i.invariant
