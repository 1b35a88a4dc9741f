-- The f64 operations of a mean, each as one rounding of the exact fraction.
use Rattle.std.proofs.Common.{◌≡◌, refl, sym, ap, ◌∙◌, ℕ, ◌*◌, ◌≤◌, ◌<◌, mul_comm, mul_assoc, mul-one, mul-pos, lt_irrefl, Bool, true, false, cond, T, eqb, eqb→eq, ltb→lt, Float}
use Rattle.std.specs.Float.{binary64}
use Rattle.std.specs.Float.Ieee.{add, div}
use Rattle.std.specs.Float.Ieee.Scale.{round_same}
use Rattle.std.specs.Float.Ieee.Positive.{num, den, den_pos, positive, value→cross}
use Rattle.laws.proofs.Floats.{plain, positive_plain, positive_num, both_plain}
use Rattle.means.specs.Means.{whole}
use Rattle.means.proofs.Fractions.{fraction, plus, over}
use Rattle.means.proofs.Rounding.{value, rounded, most_whole, whole_value, whole_positive}

-- ---- a sum and a quotient
pub add_is : (x y : Float) → T (plain x) → T (plain y) → add binary64 x y ≡ rounded (plus (value x) (value y))
unfolding add
add_is = both_plain (λ x y. add binary64 x y ≡ rounded (plus (value x) (value y))) (λ m e n d. refl)

-- `div` asks first whether the divisor is 0
not_zero : {A : Type 0} (n : ℕ) (x y : A) → 0 < n → cond (eqb n 0) x y ≡ y
not_zero n x y h = go (eqb n 0) (eqb→eq n 0)
  where
    go : (b : Bool) → (T b → n ≡ 0) → cond b x y ≡ y
    go true e = absurd (lt_irrefl 0 (rw (e tt) at h))
    go false e = refl

div_is : (x y : Float) → T (plain x) → T (positive y) → div binary64 x y ≡ rounded (fraction (num x * den y) (num y * den x))
unfolding div
div_is x y p q =
    both_plain (λ x y. T (positive y) → div binary64 x y ≡ rounded (fraction (num x * den y) (num y * den x))) (λ m e n d r. not_zero n _ _ (ltb→lt 0 n r)) x y p
    (positive_plain y q) q

-- ---- whole numbers up to 2^53
whole_num : (n : ℕ) → n ≤ most_whole → num (whole n) ≡ n * den (whole n)
whole_num n h = sym (mul-one (num (whole n))) ∙ value→cross (whole n) n 1 (whole_value n h)

-- n / y
pub div_whole : (n : ℕ) (y : Float) → 0 < n → n ≤ most_whole → T (positive y) → div binary64 (whole n) y ≡ rounded (over n (value y))
div_whole n y some h q =
    let w = whole n in
    div_is w y (positive_plain w (whole_positive n some h)) q
    ∙ round_same binary64 false (num w * den y) (num y * den w) (n * den y) (num y) (mul-pos (positive_num y q) (den_pos w)) (positive_num y q)
    (ap (λ (z : ℕ). z * den y * num y) (whole_num n h) ∙ simp (mul_assoc, mul_comm))

-- n / m
pub div_wholes : (n m : ℕ) → 0 < n → n ≤ most_whole → 0 < m → m ≤ most_whole → div binary64 (whole n) (whole m) ≡ rounded (fraction n m)
div_wholes n m some h some' h' =
    let w = whole m in
    let q = whole_positive m some' h' in
    div_whole n w some h q
    ∙ round_same binary64 false (n * den w) (num w) n m (positive_num w q) some'
    (mul_assoc n (den w) m ∙ ap (λ (z : ℕ). n * z) (mul_comm (den w) m ∙ sym (whole_num m h')))
