-- The scores that are computed from the counters 1 and 2 of case P9.
use Rattle.std.proofs.Common.{◌≡◌, refl, List, [], ◌∷◌, ℕ}
use Rattle.std.specs.Float.{binary64}
use Rattle.std.specs.Float.Ieee.{add, div, of_int, to_bits}
use Rattle.means.specs.declared.MeanType.TheVariants.{Arithmetic, Harmonic}
use Rattle.means.specs.Means.{reciprocals, sum, mean}

abbrev counters : List ℕ
counters = 1 ∷ 2 ∷ []

-- the nearest f64 below 4/3, and 1.5
pub harmonic_score : to_bits binary64 (mean Harmonic counters) ≡ 0x3ff5_5555_5555_5555
unfolding mean reciprocals div add of_int to_bits
harmonic_score = refl

pub arithmetic_score : to_bits binary64 (mean Arithmetic counters) ≡ 0x3ff8_0000_0000_0000
unfolding mean sum div of_int to_bits
arithmetic_score = refl
