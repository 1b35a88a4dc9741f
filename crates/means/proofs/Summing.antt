-- The computed sum of reciprocals against the exact one, one counter after the other.
use Rattle.std.proofs.Common.{◌≡◌, sym, ap, ◌∙◌, subst, List, [], ◌∷◌, ℕ, suc, ◌+◌, ◌*◌, ◌≤◌, ◌<◌, zero-add, add-zero, lt_irrefl, le_trans, le_of_eq, mul_comm, mul_assoc, mul_left_comm, suc-mul, mul-le-mul_right, mul-le-mul_left, mul-pos, arith, length, T, lit<, lit≤, Float}
use Rattle.std.specs.Float.{binary64}
use Rattle.std.specs.Float.Ieee.{add, div, of_int}
use Rattle.std.specs.Float.Ieee.Positive.{num, den, den_pos}
use Rattle.laws.proofs.Floats.{plain, positive_plain}
use Rattle.means.specs.Means.{Counters, Fraction, whole, reciprocals}
use Rattle.means.specs.Tallies.{most_counters}
use Rattle.means.proofs.Fractions.{fraction, plus}
use Rattle.means.proofs.Closeness.{Close, close_looser, close_plus, once_more}
use Rattle.means.proofs.Rounding.{value, rounded, Ranged, rounded_positive, rounded_least, rounded_most, rounded_close}
use Rattle.means.proofs.Operations.{add_is, div_wholes}
use Rattle.means.proofs.Shares.{plus_reciprocals}

-- x is the sum of k reciprocals as computed, f the exact sum. x is at most k and, from the first counter on, at least 2^-15; and it is at most 5k + 4 units off
pub record Summed (k : ℕ) (x : Float) (f : Fraction) : Type 0 where
  pub finite : T (plain x)
  pub least : 1 ≤ k → den x ≤ num x * 32768
  pub most : num x ≤ k * den x
  pub close : Close (5 * k + 4) (value x) f

-- ---- the range of a sum x + r, r being from 2^-15 to 1
sum_low : (xn xd rn rd : ℕ) → rd ≤ rn * 32768 → xd * rd ≤ (xn * rd + rn * xd) * 32768
sum_low xn xd rn rd h =
    let p : xd * rd ≤ rn * xd * 32768 = le_trans (mul-le-mul_left xd h) (le_of_eq (simp (mul_assoc, mul_comm, mul_left_comm))) in
    omega arith

sum_high : (k xn xd rn rd : ℕ) → xn ≤ k * xd → rn ≤ rd → xn * rd + rn * xd ≤ suc k * (xd * rd)
sum_high k xn xd rn rd h g =
    let p : xn * rd ≤ k * (xd * rd) = le_trans (mul-le-mul_right rd h) (le_of_eq (mul_assoc k xd rd)) in
    let q : rn * xd ≤ xd * rd = le_trans (mul-le-mul_right xd g) (le_of_eq (mul_comm rd xd)) in
    let s : suc k * (xd * rd) ≡ k * (xd * rd) + xd * rd = suc-mul k (xd * rd) in
    omega arith

-- ---- one counter more
one_more : (k : ℕ) (x : Float) (f : Fraction) (c : ℕ) → k < most_counters → 1 ≤ c → c ≤ 32768 → Summed k x f
    → Summed (suc k) (add binary64 x (div binary64 (whole 1) (whole c))) (plus f (fraction 1 c))
one_more k x f c K C L s =
    let r = rounded (fraction 1 c) in
    let rr : Ranged (fraction 1 c) = record { some = C; least = L; most = omega arith } in
    let rm : num r ≤ den r = plainly (num r) (den r) (rounded_most rr 1 (lit< tt) (lit≤ tt) (omega arith)) in
    let g = plus (value x) (value r) in
    let high : g.numerator ≤ suc k * g.denominator = sum_high k (num x) (den x) (num r) (den r) s.most rm in
    let gr : Ranged g = record {
      some = mul-pos (den_pos x) (den_pos r);
      least = sum_low (num x) (den x) (num r) (den r) (rounded_least rr);
      most = le_trans high (mul-le-mul_right g.denominator (omega arith));
    } in
    let y = rounded g in
    let exact : Close (5 * k + 4) g (plus f (fraction 1 c)) = close_plus s.close (close_looser (5 * k + 4) (omega arith) (rounded_close rr)) in
    let out : Summed (suc k) y (plus f (fraction 1 c)) = record {
      finite = positive_plain y (rounded_positive gr);
      least = λ _. rounded_least gr;
      most = rounded_most gr (suc k) (omega arith) (omega arith) high;
      close = close_looser (5 * suc k + 4) (omega arith) (once_more gr.some (omega arith) (rounded_close gr) exact);
    } in
    let quotient : div binary64 (whole 1) (whole c) ≡ r = div_wholes 1 c (lit< tt) (lit≤ tt) C (omega arith) in
    let total : add binary64 x r ≡ y = add_is x r s.finite (positive_plain r (rounded_positive rr)) in
    subst (λ (z : Float). Summed (suc k) z (plus f (fraction 1 c))) (sym (ap (add binary64 x) quotient ∙ total)) out
  where
    plainly : (a b : ℕ) → a ≤ 1 * b → a ≤ b
    plainly a b h = omega arith

-- ---- a whole list, from no counters on
more : (k : ℕ) (x : Float) (f : Fraction) (cs : List ℕ) → k + length cs ≤ most_counters → Counters cs → Summed k x f → Summed (k + length cs) (reciprocals x cs) (plus_reciprocals f cs)
unfolding reciprocals plus_reciprocals
more k x f [] h C s = rw add-zero s
more k x f (c ∷ cs) h C s =
    let n = length cs in
    let y = add binary64 x (div binary64 (whole 1) (whole c)) in
    let g = plus f (fraction 1 c) in
    let e : suc k + n ≡ k + suc n = omega arith in
    subst (λ (m : ℕ). Summed m (reciprocals y cs) (plus_reciprocals g cs)) e (more (suc k) y g cs (omega arith) C.2 (one_more k x f c (omega arith) C.0 C.1 s))

nothing : Summed 0 (whole 0) (fraction 0 1)
unfolding of_int
nothing = record { finite = tt; least = λ h. absurd (lt_irrefl 0 h); most = lit≤ tt; close = record { above = record { cross = lit≤ tt }; below = record { cross = lit≤ tt } } }

pub summed : (cs : List ℕ) → length cs ≤ most_counters → Counters cs → Summed (length cs) (reciprocals (whole 0) cs) (plus_reciprocals (fraction 0 1) cs)
summed cs h C = rw zero-add at (more 0 (whole 0) (fraction 0 1) cs (rw zero-add h) C nothing)
