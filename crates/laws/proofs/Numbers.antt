-- Numbers.
use Rattle.std.proofs.Common.{◌≡◌, sym, ◌∙◌, ℕ, ◌*◌, ◌<◌, zero-mul}
use Rattle.std.proofs.Math.Nat.{eq_of_mul-eq-mul_right}

-- a product of 0 with a factor above 0
pub no_factor : (x c : ℕ) → 0 < c → x * c ≡ 0 → x ≡ 0
no_factor x c h e = eq_of_mul-eq-mul_right c h x 0 (e ∙ sym (zero-mul c))
