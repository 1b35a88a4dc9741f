-- The bound of a score for any list of counters, however they come about: a score is finite, at least 1, and within one part in 2^32 of the exact mean.
use Rattle.std.proofs.Common.{sym, subst, List, ℕ, ◌+◌, ◌*◌, ◌≤◌, ◌<◌, le_trans, le_of_eq, one-mul, mul-le-mul, arith, length, lit<, lit≤, Float}
use Rattle.std.specs.Float.Ieee.Positive.{num, den, den_pos, first_pos}
use Rattle.laws.proofs.Floats.{plain_positive}
use Rattle.means.specs.declared.MeanType.{MeanType}
use Rattle.means.specs.declared.MeanType.TheVariants.{Arithmetic, Harmonic}
use Rattle.means.specs.Means.{Counters, Fraction, Scores, whole, reciprocals, sum, product, shares, mean, exact_mean}
use Rattle.means.specs.Tallies.{most_counters}
use Rattle.means.proofs.Fractions.{fraction, over, looser}
use Rattle.means.proofs.Closeness.{Close, close_looser, close_over, once_more}
use Rattle.means.proofs.Rounding.{value, rounded, most_whole, Ranged, whole_before, rounded_positive, rounded_close}
use Rattle.means.proofs.Operations.{div_whole, div_wholes}
use Rattle.means.proofs.Shares.{reciprocal_sum, shares_some, sum_least, sum_most}
use Rattle.means.proofs.Summing.{Summed, summed}

-- the last rounding, of f: up to 2^23 units of 2^-55 are one part in 2^32
scored : (e : ℕ) (f g : Fraction) → e ≤ 0x80_0000 → Ranged f → f.denominator ≤ f.numerator → 1 ≤ g.denominator → Close e (value (rounded f)) g
    → Scores (rounded f) g
scored e f g small r one exact c =
    let d = close_looser 0x80_0000 small c in
    record {
      exact = exact;
      finite = rounded_positive r;
      at_least_one = whole_before r 1 (le_trans (le_of_eq (one-mul f.denominator)) one);
      upper = (looser _ _ (lit< tt) (lit≤ tt) d.above).cross;
      lower = (looser _ _ (lit< tt) (lit≤ tt) d.below).cross;
    }

module _ (cs : List ℕ) (C : Counters cs) (some : 1 ≤ length cs) (few : length cs ≤ most_counters) where
  -- one rounding, of the exact fraction
  arithmetic : Scores (mean Arithmetic cs) (exact_mean Arithmetic cs)
  unfolding mean exact_mean
  arithmetic =
      let n = length cs in
      let s = sum cs in
      let low = sum_least cs C in
      let high = sum_most cs C in
      let r : Ranged (fraction s n) = record { some = some; least = omega arith; most = omega arith } in
      subst (λ (x : Float). Scores x (fraction s n)) (sym (div_wholes s n (omega arith) (omega arith) some (omega arith)))
      (scored 4 (fraction s n) (fraction s n) (lit≤ tt) r low some (rounded_close r))

  -- n over the computed sum of reciprocals
  harmonic : Scores (mean Harmonic cs) (exact_mean Harmonic cs)
  unfolding mean exact_mean
  harmonic =
      let n = length cs in
      let x = reciprocals (whole 0) cs in
      let b = fraction (shares (product cs) cs) (product cs) in
      let s : Summed n x b = subst (λ (f : Fraction). Summed n x f) (reciprocal_sum cs C) (summed cs few C) in
      let least : den x ≤ num x * 32768 = s.least some in
      let above : 0 < num x = first_pos (num x) 32768 (le_trans (den_pos x) least) in
      let f = over n (value x) in
      let r : Ranged f = record { some = above; least = grow (num x) (n * den x) s.most; most = much n (den x) (num x) few least } in
      subst (λ (z : Float). Scores z (over n b)) (sym (div_whole n x some (omega arith) (plain_positive x s.finite above)))
      (scored (5 * n + 4 + 5) f (over n b) (omega arith) r s.most (shares_some cs C some)
      (once_more above (omega arith) (rounded_close r) (close_over n s.close)))
    where
      grow : (q a : ℕ) → q ≤ a → q ≤ a * 32768
      grow q a h = omega arith

      much : (n d q : ℕ) → n ≤ most_counters → d ≤ q * 32768 → n * d ≤ most_whole * q
      much n d q h l = let p : n * d ≤ most_counters * (q * 32768) = mul-le-mul h l in omega arith

pub bounded : (m : MeanType) (cs : List ℕ) → Counters cs → 1 ≤ length cs → length cs ≤ most_counters → Scores (mean m cs) (exact_mean m cs)
bounded Arithmetic = arithmetic
bounded Harmonic = harmonic
