-- A stepping stone between contracts: counters of some addresses, taken in one after the other.
use Rattle.std.specs.Prelude.{◌≡◌, List, ◌++◌, map, ℕ}
use Rattle.means.specs.declared.Tally.{Tally}
use Rattle.means.specs.Tallies.{tally}

-- the tally t is s with the counters of the addresses more, in list order, whatever says what they are
pub record Taken (counter : ℕ → ℕ) (s : Tally) (addresses : List ℕ) (t : Tally) : Type 0 where
  pub taken : (cs : List ℕ) → s ≡ tally cs → t ≡ tally (cs ++ map counter addresses)
