-- Arithmetic by the manual, on 64-bit registers read as numbers from 0 to 2^64 - 1: "the low XLEN bits of the result are written".
use Rattle.std.specs.Prelude.{ℕ, ◌+◌, ◌-◌, ◌*◌, ◌/◌, ◌%◌, ◌^◌, cond, nat_lt}
use Rattle.effects.specs.declared.arithmetic.Op.{Op}
use Rattle.effects.specs.declared.arithmetic.Op.TheVariants.{Add, Sub, Mul, Sltu, Divu, Remu}

abbrev pub add : ℕ → ℕ → ℕ
add a b = (a + b) % 2 ^ 64

-- a - b, where 2^64 more lets the difference of whole numbers exist
abbrev pub sub : ℕ → ℕ → ℕ
sub a b = (2 ^ 64 + a - b) % 2 ^ 64

abbrev pub mul : ℕ → ℕ → ℕ
mul a b = a * b % 2 ^ 64

-- 1 if a is below b, both unsigned, else 0
abbrev pub sltu : ℕ → ℕ → ℕ
sltu a b = cond (nat_lt a b) 1 0

-- quotient and remainder unsigned, rounded towards zero; no instruction gets here with a zero divisor
unfoldable pub operated : Op → ℕ → ℕ → ℕ
operated Add a b = add a b
operated Sub a b = sub a b
operated Mul a b = mul a b
operated Sltu a b = sltu a b
operated Divu a b = a / b
operated Remu a b = a % b
