-- Rounds one after the other, whatever they start from (S), whatever a round is (R), and whatever a search leaves (E): their list, and what they come to.
use Rattle.std.specs.Prelude.{Result, Ok, Err, List, [], ◌∷◌, ℕ, zero, suc}

-- after a round the search goes on from a start, or it is over
pub data Next (S E : Type 0) : Type 0 where
  goes_on : S → Next S E
  over : E → Next S E

module _ {S R E : Type 0} (after : R → Next S E) where
  abbrev pub rounds_after : Next S E → (S → List R) → List R
  rounds_after (goes_on s) more = more s
  rounds_after (over e) more = []

  -- the round, and those after it; one that filling stops is none
  abbrev pub listed : Result R E → (S → List R) → List R
  listed (Ok r) more = r ∷ rounds_after (after r) more
  listed (Err e) more = []

  -- a round with its filling
  abbrev pub with_filling : Result R E → Next S E
  with_filling (Ok r) = after r
  with_filling (Err e) = over e

  abbrev pub search_after : Next S E → (S → E) → E
  search_after (goes_on s) more = more s
  search_after (over e) more = e

  -- round k from a start, counted from 0; or what is left where filling stops the search
  module _ (made : ℕ → S → Result R E) where
    -- at most n rounds, from round k on
    unfoldable pub rounds : ℕ → ℕ → S → List R
    rounds zero k s = []
    rounds (suc n) k s = listed (made k s) (λ t. rounds n (suc k) t)

    -- what they come to, by the same recursion; after the last the rows are left as they are between two rounds
    module _ (left : S → E) where
      unfoldable pub search_from : ℕ → ℕ → S → E
      search_from zero k s = left s
      search_from (suc n) k s = search_after (with_filling (made k s)) (λ t. search_from n (suc k) t)
