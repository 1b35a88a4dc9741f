use Rattle.std.proofs.Common.{◌≡◌, refl, pos}
use Rattle.std.specs.Float.{binary64}
use Rattle.std.specs.Float.Ieee.{of_bits, of_int}
use Rattle.checks.proofs.refusal.is_copy_ratio.Goals as goal

-- the literals 0.0 and 1.0
zero : of_bits binary64 0 ≡ of_int binary64 (pos 0)
unfolding of_int of_bits
zero = refl

one : of_bits binary64 0x3ff0_0000_0000_0000 ≡ of_int binary64 (pos 1)
unfolding of_int of_bits
one = refl

pub returns-then-ratio : goal.returns-then-ratio
returns-then-ratio c = rw (← one, ← zero, c.if-ratio.true)

pub returns-else-ratio : goal.returns-else-ratio
returns-else-ratio c = rw (← zero, c.if-ratio.false)
