-- The front of a local array, lent as `l[0..n]`: the borrow checker says `take (n - 0) (drop 0 l)`.
use Rattle.std.proofs.Common.{◌≡◌, refl, ap, ◌∙◌, List, ◌∷◌, ℕ, zero, suc, ◌-◌, ◌≤◌, le_of_suc-le-suc, not-suc-le-zero, arith, length, take, drop, replicate, take_at, length-take-le}
use Rattle.std.proofs.Math.Nat.{sub-zero}
use borrow.Rule.Slice.PartMut.{put_mid}

-- that of an array of one value
first_alike : {A : Type 0} (n k : ℕ) (a : A) → n ≤ k → take n (replicate k a) ≡ replicate n a
first_alike zero k a h = refl
first_alike (suc n) zero a h = absurd (not-suc-le-zero h)
first_alike {A} (suc n) (suc k) a h = ap (λ (z : List A). a ∷ z) (first_alike n k a (le_of_suc-le-suc h))

pub front_alike : {A : Type 0} (n k : ℕ) (a : A) → n ≤ k → take (n - 0) (drop 0 (replicate k a)) ≡ replicate n a
front_alike n k a h = ap (λ (i : ℕ). take i (replicate k a)) (sub-zero n) ∙ first_alike n k a h

-- x comes back for it, and is its front
module _ {A : Type 0} (n : ℕ) (l x : List A) (h : n ≤ length l) (e : length x ≡ length (take (n - 0) (drop 0 l))) where
  pub front_part : take (n - 0) (drop 0 (put_mid 0 (n - 0) l x)) ≡ x
  front_part = take_at x (drop (n - 0) l) (n - 0) (e ∙ length-take-le (n - 0) l (omega arith))
