-- Where the places of two gaps are unmarked, those of the longer one are.
use Rattle.std.proofs.Common.{List, ℕ, ◌-◌, Bool, true, false, cond, ltb}
use Rattle.marked.specs.declared.gap.Gap.{Gap}
use Rattle.marked.specs.Gaps.{GapIn, longer}

pub longer_gap : {marks : List ℕ} (a b : Gap) → GapIn marks a → GapIn marks b → GapIn marks (longer a b)
unfolding longer
longer_gap {marks} a b p q = whichever (ltb (a.to - a.from) (b.to - b.from))
  where
    whichever : (t : Bool) → GapIn marks (cond t b a)
    whichever true = q
    whichever false = p
