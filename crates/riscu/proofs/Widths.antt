-- A 1 moved up, and a number widened from 32 bits.
use Rattle.std.specs.Prelude.{◌≡◌, refl, Bool, true, false, ℕ, zero, suc, ◌+◌, ◌-◌, ◌*◌, ◌%◌, ◌^◌, ◌<◌, ◌≤◌, ltb}
use Rattle.std.proofs.Common.{arith, sym, ltb-true, ltb-false, lt-ltb, le-ltb}
use Rattle.std.proofs.Math.Nat.{mod-eq_of_lt, pow-suc}
use Rattle.std.proofs.Math.Pow.{pow-lt, pow_mono}
use Rattle.riscu.specs.Formats.{signed, sign_extend}
use Rattle.riscu.specs.Narrow.{signed_in_32}

pub width : (k : ℕ) → k < 64 → 1 * 2 ^ k % 2 ^ 64 ≡ 2 ^ k
width k h = let one : 1 * 2 ^ k ≡ 2 ^ k = omega arith in rw one (mod-eq_of_lt (pow-lt {j = 64} h))

-- a number whose sign is worth s, extended to 32 bits and widened by its sign there, is extended to 64 bits
widened_from : (s x : ℕ) → x < s * 2 → s ≤ 2 ^ 31 → signed (2 ^ 31) (signed_in_32 s x) ≡ signed s x
unfolding signed signed_in_32
widened_from s x h w = go (ltb x s) refl
  where
    go : (t : Bool) → ltb x s ≡ t → signed (2 ^ 31) (signed_in_32 s x) ≡ signed s x
    go true e = let l : x < s = ltb-true x s e in rw (e, lt-ltb x (2 ^ 31) (omega arith)) refl
    go false e = let l : s ≤ x = ltb-false x s e in rw (e, le-ltb (x + (2 ^ 32 - s * 2)) (2 ^ 31) (omega arith)) (omega arith)

-- so document 01's immediates, of whatever width, come of numbers of 32 bits
pub widened : (n x : ℕ) → n ≤ 32 → x < 2 ^ n → signed (2 ^ 31) (signed_in_32 (2 ^ (n - 1)) x) ≡ sign_extend n x
widened zero x most h = widened_from 1 x (omega arith) (omega arith)
widened (suc k) x most h =
    let less : suc k - 1 ≡ k = omega arith
    in let within : x < 2 ^ k * 2 = rw (sym (pow-suc 2 k)) h in rw less (widened_from (2 ^ k) x within (pow_mono {i = k} {j = 31} (omega arith)))
