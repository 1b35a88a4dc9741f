-- A stepping stone between contracts: a number whose sign is worth s in it, as the 32-bit number of the same value. Widened by its sign it is
-- the 64-bit number of that value, whatever the width it had: `widened` in proofs/Widths.
use Rattle.std.specs.Prelude.{cond, ℕ, ◌+◌, ◌-◌, ◌*◌, ◌^◌, ltb}

unfoldable pub signed_in_32 : ℕ → ℕ → ℕ
signed_in_32 s x = cond (ltb x s) x (x + (2 ^ 32 - s * 2))
