-- One induction over rounds: what every round from a good start is, and hands on, holds of the whole list.
use Rattle.std.proofs.Common.{Result, Ok, Err, List, ◌≡◌, refl, ℕ, zero, suc}
use Rattle.rounds.specs.Ages.{Each, no_more, one_more}
use Rattle.rounds.specs.Demand.{All, nil, cons}
use Rattle.rounds.specs.Series.{Next, goes_on, over, rounds_after, listed, rounds}

-- J is what the start of round k is
module _ {S R E : Type 0} (after : R → Next S E) (made : ℕ → S → Result R E) (J : ℕ → S → Type 0) (P : ℕ → R → Type 0)
    (each : (k : ℕ) (s : S) (r : R) → J k s → made k s ≡ Ok r → P k r)
    (next : (k : ℕ) (s : S) (r : R) (t : S) → J k s → made k s ≡ Ok r → after r ≡ goes_on t → J (suc k) t) where
  pub every : (n k : ℕ) (s : S) → J k s → Each P k (rounds after made n k s)
  unfolding rounds
  every zero k s j = no_more
  every (suc n) k s j = by (made k s) refl (λ t i. every n (suc k) t i)
    where
      followed : (r : R) (a : Next S E) → made k s ≡ Ok r → after r ≡ a → ((t : S) → J (suc k) t → Each P (suc k) (rounds after made n (suc k) t))
          → Each P (suc k) (rounds_after after a (λ t. rounds after made n (suc k) t))
      followed r (goes_on t) h e more = more t (next k s r t j h e)
      followed r (over e) h i more = no_more

      by : (m : Result R E) → made k s ≡ m → ((t : S) → J (suc k) t → Each P (suc k) (rounds after made n (suc k) t))
          → Each P k (listed after m (λ t. rounds after made n (suc k) t))
      by (Ok r) h more = one_more (each k s r j h) (followed r (after r) h refl more)
      by (Err e) h more = no_more

-- without the places
pub all_of : {A : Type 0} {P : A → Type 0} {k : ℕ} {xs : List A} → Each (λ i x. P x) k xs → All P xs
all_of no_more = nil
all_of (one_more p ps) = cons p (all_of ps)
