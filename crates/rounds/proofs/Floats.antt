-- `<` on floats that are finite and above zero is a strict order, and what is not below is at most.
use Rattle.std.proofs.Common.{true, false, ◌≡◌, refl, sym, ◌∙◌, ℕ, ◌*◌, ◌≤◌, ◌<◌, le_refl, le_of_lt, le_of_eq, le_trans, lt_of_lt_of_le, lt_of_le_of_lt, mul_right_comm, mul-le-mul_right, mul-lt-mul_of_pos_right, lt_of_mul-lt-mul_right, T, ltb, Float, ltb-true, ltb-false, lt-ltb, le-ltb}
use Rattle.std.specs.Float.Ieee.{lt, le}
use Rattle.std.specs.Float.Ieee.Positive.{num, den, positive, cross→le, den_pos}
use Rattle.laws.proofs.Floats.{positive_plain, both_plain}

-- by cross multiplication
lt_is : (x y : Float) → T (positive x) → T (positive y) → lt x y ≡ ltb (num x * den y) (num y * den x)
unfolding lt
lt_is x y p q = both_plain (λ x y. lt x y ≡ ltb (num x * den y) (num y * den x)) (λ m e n d. refl) x y (positive_plain x p) (positive_plain y q)

pub lt_irreflexive : (x : Float) → T (positive x) → lt x x ≡ false
lt_irreflexive x p = lt_is x x p p ∙ le-ltb (num x * den x) (num x * den x) (le_refl (num x * den x))

-- x / p < y / q ≤ z / r
through : (x y z p q r : ℕ) → 0 < r → x * q < y * p → y * r ≤ z * q → x * r < z * p
through x y z p q r pos h k =
    lt_of_mul-lt-mul_right q
    (lt_of_le_of_lt (le_of_eq (mul_right_comm x r q))
    (lt_of_lt_of_le (mul-lt-mul_of_pos_right h pos)
    (le_trans (le_of_eq (mul_right_comm y p r)) (le_trans (mul-le-mul_right p k) (le_of_eq (mul_right_comm z q p))))))

pub lt_transitive : (x y z : Float) → T (positive x) → T (positive y) → T (positive z) → lt x y ≡ true → lt y z ≡ true → lt x z ≡ true
lt_transitive x y z p q r h k =
    lt_is x z p r
    ∙ lt-ltb (num x * den z) (num z * den x)
    (through (num x) (num y) (num z) (den x) (den y) (den z) (den_pos z)
    (ltb-true (num x * den y) (num y * den x) (sym (lt_is x y p q) ∙ h))
    (le_of_lt (ltb-true (num y * den z) (num z * den y) (sym (lt_is y z q r) ∙ k))))

pub not_lt_le : (x y : Float) → T (positive x) → T (positive y) → lt y x ≡ false → T (le x y)
not_lt_le x y p q h = cross→le x y p q (ltb-false (num y * den x) (num x * den y) (sym (lt_is y x q p) ∙ h))
