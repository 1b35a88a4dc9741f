-- The two means of a list of counters: as the f64 that is computed, and exactly, as a fraction.
use Rattle.std.specs.Prelude.{List, [], ◌∷◌, ℕ, ◌+◌, ◌*◌, ◌/◌, ◌≤◌, T, Float, pos, length}
use Rattle.std.specs.Float.{binary64}
use Rattle.std.specs.Float.Ieee.{add, div, of_int, le}
use Rattle.std.specs.Float.Ieee.Positive.{num, den, positive}
use Rattle.means.specs.declared.MeanType.{MeanType}
use Rattle.means.specs.declared.MeanType.TheVariants.{Arithmetic, Harmonic}

-- every counter is from 1 to 32,768: in each of at most 4,096 states a cell occurs at most once for each of the eight byte numbers
abbrev pub Counters : List ℕ → Type 0
Counters [] = Unit {0}
Counters (c ∷ cs) = (1 ≤ c) × (c ≤ 32768) × Counters cs

-- a whole number as an f64
abbrev pub whole : ℕ → Float
whole n = of_int binary64 (pos n)

-- the sum, in list order, of 1/c, added to what is summed already, each operation rounded once
unfoldable pub reciprocals : Float → List ℕ → Float
reciprocals acc [] = acc
reciprocals acc (c ∷ cs) = reciprocals (add binary64 acc (div binary64 (whole 1) (whole c))) cs

unfoldable pub sum : List ℕ → ℕ
sum [] = 0
sum (c ∷ cs) = c + sum cs

-- the score: arithmetic is the whole-number sum as f64 divided by n, harmonic is n divided by the sum of 1/c
unfoldable pub mean : MeanType → List ℕ → Float
mean Arithmetic cs = div binary64 (whole (sum cs)) (whole (length cs))
mean Harmonic cs = div binary64 (whole (length cs)) (reciprocals (whole 0) cs)

-- a fraction of whole numbers
pub record Fraction : Type 0 where
  pub numerator : ℕ
  pub denominator : ℕ

-- D, the product of all c
unfoldable pub product : List ℕ → ℕ
product [] = 1
product (c ∷ cs) = c * product cs

-- the sum of D/c
unfoldable pub shares : ℕ → List ℕ → ℕ
shares d [] = 0
shares d (c ∷ cs) = d / c + shares d cs

-- arithmetic: the sum over n; harmonic: n × D over the sum of D/c
unfoldable pub exact_mean : MeanType → List ℕ → Fraction
exact_mean Arithmetic cs = record { numerator = sum cs; denominator = length cs }
exact_mean Harmonic cs = record { numerator = length cs * product cs; denominator = shares (product cs) cs }

-- the f64 x, whose value is num x / den x, is finite and above zero, at least 1, and within one part in 2^32 of the fraction f
pub record Scores (x : Float) (f : Fraction) : Type 0 where
  -- without which the bound would say nothing
  pub exact : 1 ≤ f.denominator
  pub finite : T (positive x)
  pub at_least_one : T (le (whole 1) x)
  pub upper : num x * f.denominator * 0x1_0000_0000 ≤ f.numerator * den x * 0x1_0000_0001
  pub lower : f.numerator * den x * 0xffff_ffff ≤ num x * f.denominator * 0x1_0000_0000

-- f is at most g, up to one part in 2^30
abbrev pub AtMost : Fraction → Fraction → Type 0
AtMost f g = f.numerator * g.denominator * 0x4000_0000 ≤ g.numerator * f.denominator * 0x4000_0001
