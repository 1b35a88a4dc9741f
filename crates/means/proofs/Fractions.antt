-- Fractions of whole numbers, and the order of two of them up to a factor. All is cross-multiplied: nothing is divided and nothing subtracted.
use Rattle.std.proofs.Common.{◌≡◌, sym, ℕ, ◌+◌, ◌*◌, ◌≤◌, ◌<◌, le_trans, le_of_eq, mul_comm, mul_assoc, mul_left_comm, add-mul, mul-le-mul_left, mul-le-mul_right, le_of_mul-le-mul_right, add-le-add}
use Rattle.means.specs.Means.{Fraction}

abbrev pub fraction : ℕ → ℕ → Fraction
fraction n d = record { numerator = n; denominator = d }

-- f + g
abbrev pub plus : Fraction → Fraction → Fraction
plus f g = fraction (f.numerator * g.denominator + g.numerator * f.denominator) (f.denominator * g.denominator)

-- n / f
abbrev pub over : ℕ → Fraction → Fraction
over n f = fraction (n * f.denominator) f.numerator

-- f ≤ g × a/m. A record, so that a law finds f, g, a and m in what it is given
pub record Ratio (m a : ℕ) (f g : Fraction) : Type 0 where
  pub cross : f.numerator * g.denominator * m ≤ g.numerator * f.denominator * a

-- x ≤ y, each written in another way
pub regrouped : {w x y z : ℕ} → w ≡ x → x ≤ y → y ≡ z → w ≤ z
regrouped p h q = le_trans (le_of_eq p) (le_trans h (le_of_eq q))

pub as_ratio : (f g : Fraction) → f.numerator * g.denominator ≤ g.numerator * f.denominator → Ratio 1 1 f g
as_ratio f g h = record { cross = mul-le-mul_right 1 h }

-- a larger factor: a/m ≤ b/n
pub looser : {m a : ℕ} {f g : Fraction} (n b : ℕ) → 0 < m → a * n ≤ b * m → Ratio m a f g → Ratio n b f g
looser {m} {a} {f} {g} n b some h r =
    let x = f.numerator * g.denominator in
    let y = g.numerator * f.denominator in
    let p : x * n * m ≤ y * (a * n) = regrouped (simp (mul_assoc, mul_comm, mul_left_comm)) (mul-le-mul_right n r.cross) (mul_assoc y a n) in
    let q : y * (a * n) ≤ y * b * m = le_trans (mul-le-mul_left y h) (le_of_eq (sym (mul_assoc y b m))) in
    record { cross = le_of_mul-le-mul_right (le_trans p q) some }

-- ---- the laws' arithmetic: p/q, u/v and x/y are three fractions
through_cross : (m a k b p q u v x y : ℕ) → 0 < v → p * v * m ≤ u * q * a → u * y * k ≤ x * v * b → p * y * (m * k) ≤ x * q * (a * b)
through_cross m a k b p q u v x y some r s =
    let h : p * y * (m * k) * v ≤ u * y * k * (q * a) = regrouped (simp (mul_assoc, mul_comm, mul_left_comm)) (mul-le-mul_right (y * k) r) (simp (mul_assoc, mul_comm, mul_left_comm)) in
    let j : u * y * k * (q * a) ≤ x * q * (a * b) * v = le_trans (mul-le-mul_right (q * a) s) (le_of_eq (simp (mul_assoc, mul_comm, mul_left_comm))) in
    le_of_mul-le-mul_right (le_trans h j) some

-- one part of a sum, over both denominators
part_cross : (m a p q u v t w : ℕ) → p * v * m ≤ u * q * a → p * t * (v * w) * m ≤ u * w * (q * t) * a
part_cross m a p q u v t w r = regrouped (simp (mul_assoc, mul_comm, mul_left_comm)) (mul-le-mul_right (t * w) r) (simp (mul_assoc, mul_comm, mul_left_comm))

plus_cross : (m a p q u v p' q' u' v' : ℕ) → p * v * m ≤ u * q * a → p' * v' * m ≤ u' * q' * a → (p * q' + p' * q) * (v * v') * m ≤ (u * v' + u' * v) * (q * q') * a
plus_cross m a p q u v p' q' u' v' r s =
    let h : p * q' * (v * v') * m ≤ u * v' * (q * q') * a = part_cross m a p q u v q' v' r in
    let k : p' * q * (v * v') * m ≤ u' * v * (q * q') * a = rw (mul_comm v v', mul_comm q q') (part_cross m a p' q' u' v' q v s) in
    regrouped (rw (add-mul, add-mul)) (add-le-add h k) (sym (rw (add-mul, add-mul)))

over_cross : (m a n p q u v : ℕ) → p * v * m ≤ u * q * a → n * v * p * m ≤ n * q * u * a
over_cross m a n p q u v r = regrouped (simp (mul_assoc, mul_comm, mul_left_comm)) (mul-le-mul_right n r) (simp (mul_assoc, mul_comm, mul_left_comm))

-- ---- the laws
-- f ≤ g × a/m and g ≤ h × b/k
pub through : {m a k b : ℕ} {f g h : Fraction} → 0 < g.denominator → Ratio m a f g → Ratio k b g h → Ratio (m * k) (a * b) f h
through some r s = record { cross = through_cross _ _ _ _ _ _ _ _ _ _ some r.cross s.cross }

-- both sides of a sum
pub ratio_plus : {m a : ℕ} {f g f' g' : Fraction} → Ratio m a f g → Ratio m a f' g' → Ratio m a (plus f f') (plus g g')
ratio_plus r s = record { cross = plus_cross _ _ _ _ _ _ _ _ _ _ r.cross s.cross }

-- n over each: the order turns round
pub ratio_over : {m a : ℕ} {f g : Fraction} (n : ℕ) → Ratio m a f g → Ratio m a (over n g) (over n f)
ratio_over n r = record { cross = over_cross _ _ n _ _ _ _ r.cross }
