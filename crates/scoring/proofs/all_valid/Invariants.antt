use Rattle.std.proofs.Common.{◌≡◌, drop}
use Rattle.store.specs.Lent.{rows_seen}
use Rattle.scoring.specs.Entry.{all_valid}
use Rattle.scoring.proofs.all_valid.Given as goal

abbrev pub invariant-loop-r : goal.invariant-loop-r
invariant-loop-r l = all_valid (drop l.r (rows_seen l.store)) ≡ all_valid (rows_seen l.store)
