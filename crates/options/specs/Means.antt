-- The number by which sheets and hosts name a mean.
use Rattle.std.specs.Prelude.{cond, ℕ, eqb}
use Rattle.means.specs.declared.MeanType.{MeanType}
use Rattle.means.specs.declared.MeanType.TheVariants.{Arithmetic, Harmonic}

-- 0 arithmetic, 1 harmonic
abbrev pub mean_number : MeanType → ℕ
mean_number Arithmetic = 0
mean_number Harmonic = 1

-- the mean of a number, which is at most 1
abbrev pub mean_numbered : ℕ → MeanType
mean_numbered n = cond (eqb n 0) Arithmetic Harmonic
