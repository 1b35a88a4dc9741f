-- Of the missing executors at most all are copies: missing × ratio is at most missing, also as an f64.
use Rattle.std.proofs.Common.{Bool, true, false, ◌&&◌, ◌||◌, true≢false, ◌⊎◌, inl, inr, ⊎_elim, ◌≡◌, sym, ap, ◌∙◌, subst, ℕ, ◌*◌, ◌^◌, ◌≤◌, ◌<◌, le_of_eq, le_of_lt, le_of_suc-le-suc, lt_of_le_of_lt, div-lt_iff_lt-mul, suc-mul, mul_assoc, mul_comm, mul_left_comm, mul_right_comm, mul-one, one-mul, zero-mul, mul-zero, mul-pos, mul-le-mul, mul-le-mul_right, le_of_mul-le-mul_right, arith, T, eqb, ltb, lit<, eqb→eq, ltb→lt, Float, pos}
use Rattle.std.specs.Float.{nan, inf, fin, binary64}
use Rattle.std.specs.Float.Ieee.{up, down, round, mul, of_int, le, lt, eq}
use Rattle.std.specs.Float.Ieee.Exact.{HasValue, round_exact}
use Rattle.std.specs.Float.Ieee.Fits.{up_pos, down_pos, and_l, and_r}
use Rattle.std.specs.Float.Ieee.Order.{round_mono}
use Rattle.laws.proofs.Numbers.{no_factor}
use Rattle.rows.specs.Limits.{most_rows}
use Rattle.checks.specs.Refusals.{is_copy_ratio}
use Rattle.rounds.specs.Copies.{nearest, to_copy}

-- finite, at most n, and negative only as a zero
abbrev pub UpTo : Float → ℕ → Type 0
UpTo nan n = ⊥
UpTo (inf s) n = ⊥
UpTo (fin s m e) n = (m * up e ≤ n * down e) × (T s → m ≡ 0)

-- ---- what is between 0 and n is within
either : (a b : Bool) → T (a || b) → T a ⊎ T b
either true b t = inl tt
either false b t = inr t

-- below, or level with it and of its sign
at_most : (a b : ℕ) → T (ltb a b || (eqb a b && (true || eqb a 0))) → a ≤ b
at_most a b t =
    ⊎_elim
    (λ (h : T (ltb a b)). le_of_lt (ltb→lt a b h))
    (λ (h : T (eqb a b && (true || eqb a 0))). le_of_eq (eqb→eq a b (and_l (eqb a b) (true || eqb a 0) h)))
    (either (ltb a b) (eqb a b && (true || eqb a 0)) t)

between : (x low high : Float) (n : ℕ) → HasValue low false 0 1 → HasValue high false n 1 → T (le low x) → T (le x high) → UpTo x n
unfolding le lt eq
between x nan high n u v h k = absurd u
between x (inf s) high n u v h k = absurd u
between x (fin true l i) high n u v h k = absurd (true≢false u.0)
between x (fin false l i) nan n u v h k = absurd v
between x (fin false l i) (inf s) n u v h k = absurd v
between x (fin false l i) (fin true o j) n u v h k = absurd (true≢false v.0)
between nan (fin false l i) (fin false o j) n u v h k = absurd k
between (inf true) (fin false l i) (fin false o j) n u v h k = absurd h
between (inf false) (fin false l i) (fin false o j) n u v h k = absurd k
between (fin true m e) (fin false l i) (fin false o j) n u v h k =
    let same = eqb→eq _ _ (and_l (eqb (l * up i * down e) (m * up e * down i)) (false || eqb (l * up i * down e) 0) h) in
    let low : l * up i ≡ 0 = omega (arith, u.1, zero-mul (down i)) in
    let x : m * up e ≡ 0 = no_factor (m * up e) (down i) (down_pos i) (sym same ∙ ap (λ (a : ℕ). a * down e) low ∙ zero-mul (down e)) in
    (rw x (omega arith), λ t. no_factor m (up e) (up_pos e) x)
between (fin false m e) (fin false l i) (fin false o j) n u v h k =
    let a = m * up e * down j in
    let b = o * up j * down e in
    let order = at_most a b k in
    let high : b ≡ n * down e * down j = ap (λ (a : ℕ). a * down e) (sym (mul-one (o * up j)) ∙ v.1) ∙ mul_right_comm n (down j) (down e) in
    (le_of_mul-le-mul_right (subst (λ (z : ℕ). a ≤ z) high order) (down_pos j), λ t. absurd t)

-- a whole number to 4,096 is an f64
exact : (n : ℕ) → n ≤ most_rows → HasValue (round binary64 false n 1) false n 1
exact n h =
    round_exact binary64 false n 1 n 1074 (lit< tt) (omega arith)
    (lt_of_le_of_lt (mul-le-mul_right (2 ^ 1074) h) (lit< {m = 4096 * 2 ^ 1074} tt))
    (sym (mul-one (n * 2 ^ 1074)))

-- a negative zero rounds to one
zero_within : (x : Float) (a b n : ℕ) → 0 < b → a ≡ 0 → HasValue x true a b → UpTo x n
zero_within nan a b n h z v = absurd v
zero_within (inf s) a b n h z v = absurd v
zero_within (fin s m e) a b n h z v =
    let x : m * up e ≡ 0 = no_factor (m * up e) b h (v.1 ∙ ap (λ (c : ℕ). c * down e) z ∙ zero-mul (down e)) in
    (rw x (omega arith), λ t. no_factor m (up e) (up_pos e) x)

-- ---- the product of n and what is within 1
product : (x ratio : Float) (n : ℕ) → n ≤ most_rows → HasValue x false n 1 → UpTo ratio 1 → UpTo (mul binary64 x ratio) n
unfolding mul
product nan ratio n h v w = absurd v
product (inf s) ratio n h v w = absurd v
product (fin true l i) ratio n h v w = absurd (true≢false v.0)
product (fin false l i) nan n h v w = absurd w
product (fin false l i) (inf s) n h v w = absurd w
product (fin false l i) (fin false m e) n h v w =
    let a = l * up i * (m * up e) in
    let b = down i * down e in
    let some : 0 < b = mul-pos (down_pos i) (down_pos e) in
    let whole : l * up i ≡ n * down i = sym (mul-one (l * up i)) ∙ v.1 in
    let most : a ≤ n * b = subst (λ (z : ℕ). a ≤ z) (mul_assoc n (down i) (down e)) (mul-le-mul (le_of_eq whole) (rw one-mul at w.0)) in
    between (round binary64 false a b) (round binary64 false 0 1) (round binary64 false n 1) n (exact 0 (omega arith)) (exact n h)
    (round_mono binary64 0 1 a b (lit< tt) some (omega (arith, zero-mul b)))
    (round_mono binary64 a b n 1 some (lit< tt) (omega arith))
product (fin false l i) (fin true m e) n h v w =
    let a = l * up i * (m * up e) in
    let b = down i * down e in
    let some : 0 < b = mul-pos (down_pos i) (down_pos e) in
    let none : a ≡ 0 = rw (w.1 tt, zero-mul, mul-zero) in
    zero_within (round binary64 true a b) a b n some none
    (round_exact binary64 true a b 0 0 some (lit< tt) (lit< tt) (ap (λ (z : ℕ). z * 2 ^ 1074) none ∙ sym (zero-mul b)))

pub product_within : (n : ℕ) (ratio : Float) → n ≤ most_rows → T (is_copy_ratio ratio) → UpTo (mul binary64 (of_int binary64 (pos n)) ratio) n
unfolding of_int
product_within n ratio h r =
    let low = le (round binary64 false 0 1) ratio in
    let high = le ratio (round binary64 false 1 1) in
    product (round binary64 false n 1) ratio n h (exact n h)
    (between ratio (round binary64 false 0 1) (round binary64 false 1 1) 1 (exact 0 (omega arith)) (exact 1 (omega arith))
    (and_l low high r) (and_r low high r))

-- ---- rounded to a whole number it stays at most n
pub nearest_most : (x : Float) (n : ℕ) → UpTo x n → nearest x ≤ n
unfolding nearest
nearest_most nan n w = absurd w
nearest_most (inf s) n w = absurd w
nearest_most (fin true m e) n w = omega arith
nearest_most (fin false m e) n w =
    let d = down e in
    le_of_suc-le-suc
    ((div-lt_iff_lt-mul (mul-pos (lit< {m = 0} {n = 2} tt) (down_pos e))
    ).1 (omega (arith, w.0, down_pos e, mul_comm n d, suc-mul n (2 * d), mul_left_comm n 2 d)))

pub copy_most : (n : ℕ) (ratio : Float) → n ≤ most_rows → T (is_copy_ratio ratio) → to_copy n ratio ≤ n
unfolding to_copy
copy_most n ratio h r = nearest_most _ n (product_within n ratio h r)
