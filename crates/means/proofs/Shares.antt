-- The exact sum of the reciprocals, one counter after the other, is the fraction of Means.antt: the sum of D/c over D.
-- Neither is zero. And the least and the most that the sum of the counters can be.
use Rattle.std.proofs.Common.{◌≡◌, sym, ap, ap₂, ◌∙◌, List, [], ◌∷◌, ℕ, ◌+◌, ◌*◌, ◌/◌, ◌≤◌, le_refl, not-suc-le-zero, mul-pos, mul-zero, mul-one, one-mul, mul-add, add-mul, add_assoc, mul_assoc, mul_left_comm, arith, length}
use Rattle.std.proofs.Math.Nat.{mul-div_cancel_left}
use Rattle.means.specs.Means.{Counters, Fraction, sum, product, shares}
use Rattle.means.proofs.Fractions.{fraction, plus}

-- f and the reciprocals, added exactly, in list order
unfoldable pub plus_reciprocals : Fraction → List ℕ → Fraction
plus_reciprocals f [] = f
plus_reciprocals f (c ∷ cs) = plus_reciprocals (plus f (fraction 1 c)) cs

-- a multiple of D has m times the shares: no division by a counter leaves a rest
scaled : (m : ℕ) (cs : List ℕ) → Counters cs → shares (m * product cs) cs ≡ m * shares (product cs) cs
unfolding shares product
scaled m [] C = sym (mul-zero m)
scaled m (c ∷ cs) C =
    let p = product cs in
    let s = shares (product cs) cs in
    let front : m * (c * p) / c ≡ m * p = ap (λ (z : ℕ). z / c) (mul_left_comm m c p) ∙ mul-div_cancel_left (m * p) C.0 in
    let rest : shares (m * (c * p)) cs ≡ m * c * s = ap (λ (z : ℕ). shares z cs) (sym (mul_assoc m c p)) ∙ scaled (m * c) cs C.2 in
    ap₂ (λ (x y : ℕ). x + y) front rest
    ∙ ap (λ (z : ℕ). m * p + z) (mul_assoc m c s)
    ∙ sym (mul-add m p (c * s))
    ∙ sym (ap₂ (λ (x y : ℕ). m * (x + y)) (mul-div_cancel_left p C.0) (scaled c cs C.2))

is_shares : (f : Fraction) (cs : List ℕ) → Counters cs → plus_reciprocals f cs ≡ fraction (f.numerator * product cs + f.denominator * shares (product cs) cs) (f.denominator * product cs)
unfolding plus_reciprocals shares product
is_shares f [] C = ap₂ fraction (empty f.numerator f.denominator) (sym (mul-one f.denominator))
  where
    empty : (a b : ℕ) → a ≡ a * 1 + b * 0
    empty a b = omega arith
is_shares f (c ∷ cs) C =
    let p = product cs in
    let s = shares (product cs) cs in
    is_shares (plus f (fraction 1 c)) cs C.2
    ∙ ap₂ fraction
    (step f.numerator f.denominator p s ∙ ap₂ (λ (x y : ℕ). f.numerator * (c * p) + f.denominator * (x + y)) (sym (mul-div_cancel_left p C.0)) (sym (scaled c cs C.2)))
    (mul_assoc f.denominator c p)
  where
    step : (a b p s : ℕ) → (a * c + 1 * b) * p + b * c * s ≡ a * (c * p) + b * (p + c * s)
    step a b p s = simp (one-mul, add-mul, mul-add, mul_assoc, add_assoc)

pub reciprocal_sum : (cs : List ℕ) → Counters cs → plus_reciprocals (fraction 0 1) cs ≡ fraction (shares (product cs) cs) (product cs)
reciprocal_sum cs C = is_shares (fraction 0 1) cs C ∙ ap₂ fraction (from_zero (product cs) (shares (product cs) cs)) (one-mul (product cs))
  where
    from_zero : (p s : ℕ) → 0 * p + 1 * s ≡ s
    from_zero p s = omega arith

-- ---- both are above zero
product_some : (cs : List ℕ) → Counters cs → 1 ≤ product cs
unfolding product
product_some [] C = le_refl 1
product_some (c ∷ cs) C = mul-pos C.0 (product_some cs C.2)

pub shares_some : (cs : List ℕ) → Counters cs → 1 ≤ length cs → 1 ≤ shares (product cs) cs
unfolding shares product
shares_some [] C some = absurd (not-suc-le-zero some)
shares_some (c ∷ cs) C some = let p = product_some cs C.2 in omega (arith, mul-div_cancel_left (product cs) C.0)

-- ---- the sum of the counters
pub sum_least : (cs : List ℕ) → Counters cs → length cs ≤ sum cs
unfolding sum
sum_least [] C = le_refl 0
sum_least (c ∷ cs) C = let h = sum_least cs C.2 in let k = C.0 in omega arith

pub sum_most : (cs : List ℕ) → Counters cs → sum cs ≤ 32768 * length cs
unfolding sum
sum_most [] C = le_refl 0
sum_most (c ∷ cs) C = let h = sum_most cs C.2 in let k = C.1 in omega arith
