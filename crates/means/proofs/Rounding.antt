-- One rounding of a fraction to an f64. From 2^-15 to 2^53 the result is finite and above zero, and at most 4 units of 2^-55 away;
-- and a rounding never goes past a fraction that is itself an f64.
use Rattle.std.proofs.Common.{◌≡◌, refl, sym, ap, ◌∙◌, subst, ℕ, ◌+◌, ◌-◌, ◌*◌, ◌/◌, ◌%◌, ◌^◌, ◌≤◌, ◌<◌, le_trans, le_of_eq, mul_comm, mul_assoc, mul_left_comm, mul-one, one-mul, mul-le-mul_right, mul-le-mul_left, mul-pos, le-div_iff_mul-le, arith, false, T, lit<, lit≤, pow-add, pow_pos, Float}
use Prim.Native.Nat.{compare}
use Rattle.std.specs.Float.{binary64}
use Rattle.std.specs.Float.Ieee.{low, size, round, of_int, le}
use Rattle.std.specs.Float.Ieee.Digits.{size_reaches}
use Rattle.std.specs.Float.Ieee.Exact.{HasValue, round_exact}
use Rattle.std.specs.Float.Ieee.Nearest.{nearest-ge}
use Rattle.std.specs.Float.Ieee.Order.{drop, kept, round_mono}
use Rattle.std.specs.Float.Ieee.Scale.{grid, round_val, round_under, normal_of_fraction}
use Rattle.std.specs.Float.Ieee.Positive.{num, den, positive, positive-finite, positive_of_value, value→cross, own_value, values_of_le, between}
use Rattle.std.specs.Float.Ieee.Back.{round_whole}
use Rattle.means.specs.Means.{Fraction, whole}
use Rattle.means.proofs.Fractions.{fraction, as_ratio, through}
use Rattle.means.proofs.Closeness.{Close, units}
use Rattle.means.proofs.Halves.{Half, closest_half}

-- the value of a float that is finite and not below zero
abbrev pub value : Float → Fraction
value x = fraction (num x) (den x)

abbrev pub rounded : Fraction → Float
rounded f = round binary64 false f.numerator f.denominator

-- 2^53: up to here every whole number is an f64
abbrev pub most_whole : ℕ
most_whole = 0x20_0000_0000_0000

-- the range of what is rounded on the way to a mean
pub record Ranged (f : Fraction) : Type 0 where
  pub some : 0 < f.denominator
  pub least : f.denominator ≤ f.numerator * 32768
  pub most : f.numerator ≤ most_whole * f.denominator

-- ---- two kinds of fraction that are f64s themselves: 2^-15, and the whole numbers
abbrev least_float : Float
least_float = rounded (fraction 1 32768)

least_value : HasValue least_float false 1 32768
least_value = round_exact binary64 false 1 32768 1 1059 (lit< tt) (lit< tt) (lit< tt) refl

least_positive : T (positive least_float)
least_positive = positive_of_value least_float 1 32768 least_value (lit< tt)

pub whole_value : (n : ℕ) → n ≤ most_whole → HasValue (whole n) false n 1
unfolding of_int
whole_value n h = round_whole binary64 false n h

pub whole_positive : (n : ℕ) → 0 < n → n ≤ most_whole → T (positive (whole n))
whole_positive n some h = positive_of_value (whole n) n 1 (whole_value n h) some

-- ---- rounding keeps the order, so that it goes past neither kind
module _ {f : Fraction} (r : Ranged f) where
  least_before : T (le least_float (rounded f))
  least_before = round_mono binary64 1 32768 f.numerator f.denominator (lit< tt) r.some (le_trans (le_of_eq (one-mul f.denominator)) r.least)

  pub whole_before : (k : ℕ) → k * f.denominator ≤ f.numerator → T (le (whole k) (rounded f))
  unfolding of_int
  whole_before k h = round_mono binary64 k 1 f.numerator f.denominator (lit< tt) r.some (le_trans h (le_of_eq (sym (mul-one f.numerator))))

  whole_after : (k : ℕ) → f.numerator ≤ k * f.denominator → T (le (rounded f) (whole k))
  unfolding of_int
  whole_after k h = round_mono binary64 f.numerator f.denominator k 1 r.some (lit< tt) (le_trans (le_of_eq (mul-one f.numerator)) h)

  pub rounded_positive : T (positive (rounded f))
  rounded_positive =
      between least_float (rounded f) (whole most_whole) least_positive (whole_positive most_whole (lit< tt) (lit≤ tt))
      least_before (whole_after most_whole r.most)

  own : HasValue (rounded f) false (num (rounded f)) (den (rounded f))
  own = own_value (rounded f) rounded_positive

  pub rounded_least : den (rounded f) ≤ num (rounded f) * 32768
  rounded_least =
      let x = rounded f in
      le_trans (le_of_eq (sym (one-mul (den x)))) (values_of_le least_float x 1 32768 (num x) (den x) least_positive rounded_positive least_value own least_before)

  pub rounded_most : (k : ℕ) → 0 < k → k ≤ most_whole → f.numerator ≤ k * f.denominator → num (rounded f) ≤ k * den (rounded f)
  rounded_most k some small h =
      let x = rounded f in
      le_trans (le_of_eq (sym (mul-one (num x)))) (values_of_le x (whole k) (num x) (den x) k 1 rounded_positive (whole_positive k some small) own (whole_value k small) (whole_after k h))

-- ---- how far a rounding goes
-- n / c, which has p digits or more, is rounded to a multiple of c × 2^drop, of which it has 2^(p - 1) or more
unit_below : (p n c : ℕ) → 0 < p → 0 < c → p ≤ size (n / c) → 2 ^ (p - 1) * (c * 2 ^ drop p n c) ≤ n
unit_below p n c P C h =
    let k = drop p n c in
    le_trans (le_of_eq (mul_left_comm (2 ^ (p - 1)) c (2 ^ k) ∙ mul_comm c (2 ^ (p - 1) * 2 ^ k) ∙ ap (λ (z : ℕ). z * c) (sym (pow-add 2 (p - 1) k))))
    ((le-div_iff_mul-le C).0 (size_reaches (n / c) (p - 1 + k) (digits (size (n / c)) p P h)))
  where
    digits : (z p : ℕ) → 0 < p → p ≤ z → p - 1 + (z - p) < z
    digits z p P h = omega arith

kept_above : (p n c : ℕ) → 0 < p → 0 < c → p ≤ size (n / c) → 2 ^ (p - 1) ≤ kept p n c
kept_above p n c P C h =
    let u = c * 2 ^ drop p n c in
    le_trans ((le-div_iff_mul-le (mul-pos C (pow_pos (drop p n c)))).1 (unit_below p n c P C h)) (nearest-ge (n / u) (compare (n % u * 2) u))

-- half a unit u, where x and n are 2^52 units or more
small_part : (x n u : ℕ) → Half x n u → 0x10_0000_0000_0000 * u ≤ n → 0x10_0000_0000_0000 * u ≤ x → (x * units ≤ n * (units + 4)) × (n * units ≤ x * (units + 4))
small_part x n u h a b = omega arith

-- the fraction that `round` makes of f, in steps of the smallest f64
abbrev on_grid : Fraction → Fraction
on_grid f = fraction (grid binary64 f.numerator f.denominator) (2 ^ low binary64)

grid_close : (a c : ℕ) → 0 < c → 53 ≤ size (a * 2 ^ low binary64 / c) → Close 4 (on_grid (fraction a c)) (fraction a c)
grid_close a c C h = let b = go (a * 2 ^ low binary64) h in record { above = record { cross = b.0 }; below = record { cross = b.1 } }
  where
    go : (n : ℕ) → 53 ≤ size (n / c) → (kept 53 n c * 2 ^ drop 53 n c * c * units ≤ n * (units + 4)) × (n * units ≤ kept 53 n c * 2 ^ drop 53 n c * c * (units + 4))
    go n h =
        let k = drop 53 n c in
        let u = c * 2 ^ k in
        subst (λ (x : ℕ). (x * units ≤ n * (units + 4)) × (n * units ≤ x * (units + 4)))
        (ap (λ (z : ℕ). kept 53 n c * z) (mul_comm c (2 ^ k)) ∙ sym (mul_assoc (kept 53 n c) (2 ^ k) c))
        (small_part (kept 53 n c * u) n u (closest_half n u (mul-pos C (pow_pos k))) (unit_below 53 n c (lit< tt) C h) (mul-le-mul_right u (kept_above 53 n c (lit< tt) C h)))

-- 2^-15 is far above the smallest f64 that has all its digits
normal : (a c : ℕ) → 0 < c → c ≤ a * 32768 → 53 ≤ size (a * 2 ^ low binary64 / c)
normal a c C h = normal_of_fraction binary64 a c C (lift (2 ^ 52) 32768 (2 ^ 1074) (lit≤ tt) h)
  where
    lift : (H S L : ℕ) → H * S ≤ L → c ≤ a * S → H * c ≤ a * L
    lift H S L l h = le_trans (mul-le-mul_left H h) (le_trans (le_of_eq (mul_left_comm H a S)) (mul-le-mul_left a l))

pub rounded_close : {f : Fraction} → Ranged f → Close 4 (value (rounded f)) f
rounded_close {f} r =
    let x = rounded f in
    let a = f.numerator in
    let c = f.denominator in
    let g = on_grid f in
    let v : HasValue x false g.numerator g.denominator = round_val binary64 a c (round_under binary64 a c (positive-finite x (rounded_positive r))) in
    let e : num x * g.denominator ≡ g.numerator * den x = value→cross x g.numerator g.denominator v in
    let near : Close 4 g f = grid_close a c r.some (normal a c r.some r.least) in
    let some : 0 < g.denominator = pow_pos (low binary64) in
    record {
      above = through some (as_ratio (value x) g (le_of_eq e)) near.above;
      below = through some near.below (as_ratio g (value x) (le_of_eq (sym e)));
    }
