-- A stepping stone between contracts: a list of counters taken in one after the other: what is kept of it, and the mean from that.
use Rattle.std.specs.Prelude.{List, ℕ, ◌+◌, ◌*◌, ◌≤◌, Float, length}
use Rattle.std.specs.Float.{binary64}
use Rattle.std.specs.Float.Ieee.{add, div}
use Rattle.means.specs.declared.MeanType.{MeanType}
use Rattle.means.specs.declared.MeanType.TheVariants.{Arithmetic, Harmonic}
use Rattle.means.specs.declared.Tally.{Tally}
use Rattle.means.specs.Means.{whole, reciprocals, sum}

-- the most counters that one state gives: 8 × (33 + W), W being at most 131,072
abbrev pub most_counters : ℕ
most_counters = 1048840

-- the tally of a list of counters
abbrev pub tally : List ℕ → Tally
tally cs = record { reciprocals = reciprocals (whole 0) cs; sum = sum cs; n = length cs }

-- a tally with one counter more
abbrev pub with_counter : Tally → ℕ → Tally
with_counter t c = record { reciprocals = add binary64 t.reciprocals (div binary64 (whole 1) (whole c)); sum = t.sum + c; n = t.n + 1 }

-- the mean of what was taken in
unfoldable pub mean_of : MeanType → Tally → Float
mean_of Arithmetic t = div binary64 (whole t.sum) (whole t.n)
mean_of Harmonic t = div binary64 (whole t.n) t.reciprocals

-- a tally of at most so many counters of at most 32,768 each
pub record Within (most : ℕ) (t : Tally) : Type 0 where
  pub few : t.n ≤ most
  pub small : t.sum ≤ 32768 * t.n
