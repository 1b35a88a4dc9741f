-- A word with other low bytes.
use Rattle.std.proofs.Common.{◌≡◌, sym, ap, ◌∙◌, ℕ, ◌+◌, ◌-◌, ◌*◌, ◌/◌, ◌%◌, ◌^◌, ◌<◌, arith, mod-lt, pow-add, pow_pos, shr_lt}
use Rattle.std.proofs.Math.Nat.{mod-eq_of_lt}
use Rattle.std.proofs.Math.Pow.{pow-lt}
use Rattle.std.proofs.Math.Arith.{digits_lt}

-- it is a word
pub tail_fits : (c x k unit : ℕ) → c < 2 ^ 64 → k < 8 → unit ≡ 2 ^ (8 * k) → c / unit * unit + x % unit < 2 ^ 64
tail_fits c x k unit hc hk e =
    let p : 64 - 8 * k + 8 * k ≡ 64 = omega arith in
    let whole : 2 ^ 64 ≡ 2 ^ (64 - 8 * k) * 2 ^ (8 * k) = ap (λ (n : ℕ). 2 ^ n) (sym p) ∙ pow-add 2 (64 - 8 * k) (8 * k) in
    let high : c / 2 ^ (8 * k) < 2 ^ (64 - 8 * k) = shr_lt (64 - 8 * k) (8 * k) (rw p hc) in
    rw (e, whole) (digits_lt high (mod-lt x (pow_pos (8 * k))))

-- a 1 moved up by k bytes
pub unit : (k : ℕ) → k < 8 → 1 * 2 ^ (8 * k) % 2 ^ 64 ≡ 2 ^ (8 * k)
unit k h =
    let one : 1 * 2 ^ (8 * k) ≡ 2 ^ (8 * k) = omega arith in
    rw one (mod-eq_of_lt (pow-lt {j = 64} (omega arith)))
