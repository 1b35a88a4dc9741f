-- A relation between each element of a list and each later one, in any order of them.
use Rattle.std.proofs.Common.{List, [], ◌∷◌, ◌++◌, ℕ, zero, suc, ◌<◌, not-suc-le-zero, le_of_suc-le-suc, length, get_or}
use Rattle.rounds.specs.Demand.{Inserted, here, there, Permutation, none, one, All, cons}
use Rattle.rounds.proofs.Lists.{all_inserted, all_permuted, all_left, all_at}

module _ {A : Type 0} where
  pub data Pairs (R : A → A → Type 0) : List A → Type 0 where
    no_pair : Pairs R []
    pairs : {x : A} {xs : List A} → All (R x) xs → Pairs R xs → Pairs R (x ∷ xs)

  module _ {R : A → A → Type 0} where
    pub pairs_at : (l : List A) (a b : ℕ) (d : A) → a < b → b < length l → Pairs R l → R (get_or l a d) (get_or l b d)
    pairs_at [] a b d h k p = absurd (not-suc-le-zero k)
    pairs_at (x ∷ l) a zero d h k p = absurd (not-suc-le-zero h)
    pairs_at (x ∷ l) zero (suc b) d h k (pairs q p) = all_at l b d (le_of_suc-le-suc k) q
    pairs_at (x ∷ l) (suc a) (suc b) d h k (pairs q p) = pairs_at l a b d (le_of_suc-le-suc h) (le_of_suc-le-suc k) p

    pub pairs_left : (l m : List A) → Pairs R (l ++ m) → Pairs R l
    pairs_left [] m p = no_pair
    pairs_left (x ∷ l) m (pairs q p) = pairs (all_left l m q) (pairs_left l m p)

    -- where the relation goes both ways
    module _ (flip : (x y : A) → R x y → R y x) where
      pairs_inserted : {x : A} {l m : List A} → Inserted x l m → Pairs R m → All (R x) l × Pairs R l
      pairs_inserted here (pairs q p) = (q, p)
      pairs_inserted {x} (there {y} i) (pairs q p) =
          let r = pairs_inserted i p in
          let s = all_inserted i q in
          (cons (flip y x s.0) r.0, pairs s.1 r.1)

      pub pairs_permuted : {l m : List A} → Permutation l m → Pairs R m → Pairs R l
      pairs_permuted none p = no_pair
      pairs_permuted (one i q) p =
          let r = pairs_inserted i p in
          pairs (all_permuted q r.0) (pairs_permuted q r.1)
