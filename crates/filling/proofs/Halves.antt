-- Twice a small float is exact, so that what the code casts is the product to a half, and one more, halved, is the nearest whole number.
use Rattle.std.proofs.Common.{◌≡◌, ℕ, zero, suc, ◌+◌, ◌-◌, ◌*◌, ◌/◌, ◌%◌, ◌^◌, ◌<◌, ◌≤◌, min, Bool, true, false, ◌&&◌, T, eqb, ltb, leb, ℤ, pos, negsuc, sym, refl, ap, ◌∙◌, subst, le_trans, lt_of_le_of_lt, le_of_lt, mul-le-mul_right, mul_assoc, mul_comm, add-mul, mul-le-mul, mul-pos, one-mul, zero-mul, mul-one, mul-add, mul_right_comm, not-le_of_lt, le_of_mul-le-mul_right, arith, lit<, ltb→lt, lt→ltb, leb→le, pow_mono, pow-add, Float}
use Rattle.std.proofs.Math.Nat.{div-div-eq-div-mul, add-div_right, mul-div-mul_right, min-eq_left, div-le_of_le-mul, div-eq_of_lt, zero-div}
use Rattle.std.proofs.Math.Decide.{dec_lt}
use Rattle.std.proofs.Math.Pow.{pow-lt}
use Rattle.std.specs.Float.{nan, inf, fin, binary64}
use Rattle.std.specs.Float.Ieee.{up, down, fits, round, add, sum, mul, lt, to_unsigned}
use Rattle.std.specs.Float.Ieee.Exact.{HasValue, round_exact}
use Rattle.std.specs.Float.Ieee.Fits.{down_pos, and_l, and_r, mul-fits}
use Rattle.std.specs.Float.Ieee.Nearest.{div_same}
use Rattle.laws.proofs.Numbers.{no_factor}
use Rattle.rows.specs.Limits.{most_rows}
use Rattle.checks.specs.Refusals.{is_copy_ratio}
use Rattle.means.specs.Means.{whole}
use Rattle.rounds.specs.Copies.{nearest}
use Rattle.rounds.proofs.Copies.{UpTo, product_within}

-- ---- the sum of a small float and itself is exact

-- 2 ^ j units of the smallest value are 2 * 2 ^ e, and q of them are in range
units : (e : ℤ) → down e ≤ 2 ^ 1074
    → (j : ℕ) × (2 ^ j * down e ≡ up e * 2 ^ 1075) × ((q : ℕ) → q < 2 ^ 53 → q * up e ≤ 4096 * down e → q * 2 ^ j < 2 ^ 2098)
units (pos k) h = (
  k + 1075,
  mul-one (2 ^ (k + 1075)) ∙ pow-add 2 k 1075,
  λ q s b. lt_of_le_of_lt
      (subst (λ (z : ℕ). z ≤ 4096 * 2 ^ 1075) (sym (ap (λ (z : ℕ). q * z) (pow-add 2 k 1075) ∙ sym (mul_assoc q (2 ^ k) (2 ^ 1075))))
      (mul-le-mul_right (2 ^ 1075) b))
      (lit< {m = 4096 * 2 ^ 1075} tt),
)
units (negsuc k) h =
    let small : suc k ≤ 1074 = elim (dec_lt 1074 (suc k)) [ yes z ↦ absurd (not-le_of_lt (pow-lt z) h) | no z ↦ omega arith ] in
    let back : 1075 - suc k + suc k ≡ 1075 = omega arith in (
      1075 - suc k,
      sym (pow-add 2 (1075 - suc k) (suc k)) ∙ ap (λ (z : ℕ). 2 ^ z) back ∙ sym (one-mul (2 ^ 1075)),
      λ q s b. lt_of_le_of_lt (mul-le-mul (le_of_lt s) (pow_mono {i = 1075 - suc k} {j = 1075} (omega arith))) (lit< {m = 2 ^ 53 * 2 ^ 1075} tt),
    )

-- numbers: the sum of the two is q * 2 ^ j units
in_units : (q u d p l l₂ : ℕ) → l + l ≡ l₂ → p * d ≡ u * l₂ → (q * u * d + q * u * d) * l ≡ q * p * (d * d)
in_units q u d p l l₂ t h =
    add-mul (q * u * d) (q * u * d) l
    ∙ sym (mul-add (q * u * d) l l)
    ∙ ap (λ (z : ℕ). q * u * d * z) t
    ∙ mul_right_comm (q * u) d l₂
    ∙ ap (λ (z : ℕ). z * d) (mul_assoc q u l₂ ∙ ap (λ (z : ℕ). q * z) (sym h) ∙ sym (mul_assoc q p d))
    ∙ mul_assoc (q * p) d d

sum_rounded : (s : Bool) (q : ℕ) (e : ℤ) → q < 2 ^ 53 → down e ≤ 2 ^ 1074 → q * up e ≤ 4096 * down e
    → HasValue (round binary64 s (q * up e * down e + q * up e * down e) (down e * down e)) s (q * up e * down e + q * up e * down e) (down e * down e)
sum_rounded s q e small least b =
    let x = units e least in
    round_exact binary64 s (q * up e * down e + q * up e * down e) (down e * down e) q x.0 (mul-pos (down_pos e) (down_pos e)) small
    (x.2 q small b) (in_units q (up e) (down e) (2 ^ x.0) (2 ^ 1074) (2 ^ 1075) refl x.1)

-- what `fits` says of a value that is not zero
fit_parts : (s : Bool) (m : ℕ) (e : ℤ) → T (fits binary64 (fin s (suc m) e)) → (suc m < 2 ^ 53) × (down e ≤ 2 ^ 1074)
unfolding fits
fit_parts s m e f =
    let odd = eqb (suc m % 2) 1 in
    let short = ltb (suc m) (2 ^ 53) in
    let least = leb (down e) (2 ^ 1074) in
    let three = and_l (odd && short && least) (ltb (suc m * up e) (2 ^ 1024 * down e)) f in (
      ltb→lt (suc m) (2 ^ 53) (and_r odd short (and_l (odd && short) least three)),
      leb→le (down e) (2 ^ 1074) (and_r (odd && short) least three),
    )

doubled : (s : Bool) (m : ℕ) (e : ℤ) → T (fits binary64 (fin s m e)) → m * up e ≤ 4096 * down e
    → HasValue (add binary64 (fin s m e) (fin s m e)) s (m * up e * down e + m * up e * down e) (down e * down e)
unfolding fits add sum
doubled false zero e f b = round_exact binary64 false _ _ 0 0 (mul-pos (down_pos e) (down_pos e)) (lit< tt) (lit< tt) (simp zero-mul)
doubled true zero e f b = round_exact binary64 true _ _ 0 0 (mul-pos (down_pos e) (down_pos e)) (lit< tt) (lit< tt) (simp zero-mul)
doubled false (suc m) e f b = sum_rounded false (suc m) e (fit_parts false m e f).0 (fit_parts false m e f).1 b
doubled true (suc m) e f b = sum_rounded true (suc m) e (fit_parts true m e f).0 (fit_parts true m e f).1 b

-- ---- what a cast makes of a value a / c, which is zero where it has a minus sign

module _ (a c : ℕ) (some : 0 < c) where
  cast_of : (y : Float) (s : Bool) → HasValue y s a c → (T s → a ≡ 0) → a / c ≤ 2 ^ 64 - 1 → to_unsigned 64 y ≡ a / c
  unfolding to_unsigned
  cast_of nan s v z b = absurd v
  cast_of (inf t) s v z b = absurd v
  cast_of (fin true m e) s v z b = sym (ap (λ (k : ℕ). k / c) (z (subst T v.0 tt)) ∙ zero-div c)
  cast_of (fin false m e) s v z b =
      let same : m * up e / down e ≡ a / c = div_same (m * up e) (down e) a c (down_pos e) some v.1 in
      ap (λ (k : ℕ). min k (2 ^ 64 - 1)) same ∙ min-eq_left b

  -- above -1 and below 2 ^ 64
  low_of : (y : Float) (s : Bool) → HasValue y s a c → (T s → a ≡ 0) → T (lt (fin true 1 (pos 0)) y)
  unfolding lt
  low_of nan s v z = absurd v
  low_of (inf t) s v z = absurd v
  low_of (fin false m e) s v z = lt→ltb 0 (1 * down e + m * up e * 1) (omega (arith, down_pos e))
  low_of (fin true m e) s v z =
      let none : m * up e ≡ 0 = no_factor (m * up e) c some (v.1 ∙ ap (λ (k : ℕ). k * down e) (z (subst T v.0 tt)) ∙ zero-mul (down e)) in
      lt→ltb (m * up e * 1) (1 * down e) (omega (arith, down_pos e))

  high_of : (y : Float) (s : Bool) → HasValue y s a c → a ≤ 8192 * c → T (lt y (fin false 1 (pos 64)))
  unfolding lt
  high_of nan s v b = absurd v
  high_of (inf t) s v b = absurd v
  high_of (fin true m e) s v b = lt→ltb 0 (m * up e * 1 + 2 ^ 64 * down e) (omega (arith, down_pos e))
  high_of (fin false m e) s v b =
      let times : m * up e * c ≤ 8192 * down e * c =
      rw v.1 (subst (λ (k : ℕ). a * down e ≤ k) (mul_right_comm 8192 c (down e)) (mul-le-mul_right (down e) b)) in
      let once : m * up e ≤ 8192 * down e = le_of_mul-le-mul_right times some in
      lt→ltb (m * up e * 1) (2 ^ 64 * down e) (omega (arith, down_pos e))

-- numbers: twice x / d in whole units, and half of one more
halves : (x d : ℕ) → 0 < d → ((x * d + x * d) / (d * d) + 1) / 2 ≡ (2 * x + d) / (2 * d)
halves x d h =
    let a : x * d + x * d ≡ 2 * x * d = omega (arith, mul_assoc 2 x d) in
    ap (λ (z : ℕ). (z / (d * d) + 1) / 2) a
    ∙ ap (λ (z : ℕ). (z + 1) / 2) (mul-div-mul_right (2 * x) d h)
    ∙ ap (λ (z : ℕ). z / 2) (sym (add-div_right (2 * x) h))
    ∙ div-div-eq-div-mul (2 * x + d) d 2
    ∙ ap (λ (z : ℕ). (2 * x + d) / z) (mul_comm d 2)

-- ---- what the code makes of a small p
pub record Twice (p : Float) : Type 0 where
  pub above : T (lt (fin true 1 (pos 0)) (add binary64 p p))
  pub below : T (lt (add binary64 p p) (fin false 1 (pos 64)))
  pub small : to_unsigned 64 (add binary64 p p) ≤ 8192
  pub half : (to_unsigned 64 (add binary64 p p) + 1) / 2 ≡ nearest p

-- a minus sign is that of a zero only
signed_nearest : (s : Bool) (m : ℕ) (e : ℤ) → (T s → m ≡ 0) → (2 * (m * up e) + down e) / (2 * down e) ≡ nearest (fin s m e)
unfolding nearest
signed_nearest false m e z = refl
signed_nearest true m e z =
    let none : m * up e ≡ 0 = ap (λ (k : ℕ). k * up e) (z tt) ∙ zero-mul (up e) in
    div-eq_of_lt (omega (arith, down_pos e))

twice : (p : Float) (n : ℕ) → n ≤ most_rows → T (fits binary64 p) → UpTo p n → Twice p
twice nan n h f w = absurd w
twice (inf s) n h f w = absurd w
twice (fin s m e) n h f w =
    let x = m * up e in
    let d = down e in
    let a = x * d + x * d in
    let dp : 0 < d = down_pos e in
    let some : 0 < d * d = mul-pos dp dp in
    let b : x ≤ 4096 * d = le_trans w.0 (mul-le-mul_right d h) in
    let most : a ≤ 8192 * (d * d) = omega (arith, mul-le-mul_right d b, mul_assoc 4096 d d) in
    let none : T s → a ≡ 0 = λ t. ap (λ (k : ℕ). k * up e * d + k * up e * d) (w.1 t) ∙ simp zero-mul in
    let v = doubled s m e f b in
    let q : a / (d * d) ≤ 8192 = div-le_of_le-mul (d * d) (omega (arith, mul_comm 8192 (d * d))) in
    let c : to_unsigned 64 (add binary64 (fin s m e) (fin s m e)) ≡ a / (d * d) = cast_of a (d * d) some _ s v none (omega arith) in
    record {
      above = low_of a (d * d) some _ s v none;
      below = high_of a (d * d) some _ s v most;
      small = omega arith;
      half = ap (λ (z : ℕ). (z + 1) / 2) c ∙ halves x d dp ∙ signed_nearest s m e w.1;
    }

pub twice_product : (n : ℕ) (r : Float) → n ≤ most_rows → T (is_copy_ratio r) → Twice (mul binary64 (whole n) r)
twice_product n r h t = twice (mul binary64 (whole n) r) n h (mul-fits binary64 (whole n) r) (product_within n r h t)
