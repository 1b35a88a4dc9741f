-- Demand 3: every round that meets no bug and no error goes on, and what it keeps, as one claim about the whole list of a call's rounds.
use Rattle.std.specs.Prelude.{List, [], ◌∷◌, ◌++◌, map, ◌≡◌, ℕ, suc, min, ◌≤◌, length, take}
use Rattle.rows.specs.Rows.{Row}
use Rattle.store.specs.Store.{zero_row}
use Rattle.means.specs.Means.{Fraction, exact_mean, AtMost}
use Rattle.counting.specs.Counters.{counters_of}
use Rattle.answers.specs.declared.finding.Finding.TheVariants.{Nothing}
use Rattle.rounds.specs.Calls.{Call, of_rounds}
use Rattle.rounds.specs.Rounds.{Start, stored, outcome_of, still_running, state_of, chosen_of, Round, rounds_of, searched}
use Rattle.rounds.specs.Series.{goes_on}

module _ {A : Type 0} where
  -- l becomes m when x is put in somewhere
  pub data Inserted (x : A) : List A → List A → Type 0 where
    here : {l : List A} → Inserted x l (x ∷ l)
    there : {y : A} {l m : List A} → Inserted x l m → Inserted x (y ∷ l) (y ∷ m)

  -- the same elements, each as often, in any order
  pub data Permutation : List A → List A → Type 0 where
    none : Permutation [] []
    one : {x : A} {xs ys l : List A} → Inserted x ys l → Permutation xs ys → Permutation (x ∷ xs) l

  pub data All (P : A → Type 0) : List A → Type 0 where
    nil : All P []
    cons : {x : A} {xs : List A} → P x → All P xs → All P (x ∷ xs)

-- the exact mean of a state's counters over the states still running
abbrev pub exact_rarity : Call → Round → Row → Fraction
exact_rarity c r state = exact_mean c.options.mean (counters_of (still_running r.runs) state)

-- the running states that are not kept
abbrev pub passed_over : Call → Round → List Row
passed_over c r = map state_of (chosen_of c.options (still_running r.runs)).passed

-- a round that goes on with `next`
pub record Fair (c : Call) (r : Round) (next : Start) : Type 0 where
  -- each state still running is kept or passed over, once and unchanged since it ran
  pub each_once : Permutation (next.kept ++ passed_over c r) (still_running r.runs)
  -- exactly the smaller of the selection and the number still running are kept
  pub as_many : length next.kept ≡ min c.options.selection (length (still_running r.runs))
  -- every exact mean is a fraction: no denominator is zero
  pub exact : All (λ x. 1 ≤ (exact_rarity c r x).denominator) (still_running r.runs)
  -- a kept state's exact mean times 2^30 is at most a passed one's times 2^30 + 1
  pub rarest : All (λ x. All (λ y. AtMost (exact_rarity c r x) (exact_rarity c r y)) (passed_over c r)) next.kept
  -- a kept row is not a zero row
  pub not_zero : All (λ x. x ≡ zero_row c.store → ⊥) next.kept

-- a round that goes on, and is fair
pub record GoesOnFairly (c : Call) (r : Round) : Type 0 where
  pub next : Start
  pub follows_on : r.after ≡ goes_on next
  pub fair : Fair c r next

-- a round in which no row meets a bug or an error does
abbrev pub FairRound : Call → Round → Type 0
FairRound c r = outcome_of r.runs ≡ Nothing → GoesOnFairly c r

-- the whole list of a call's rounds
pub record Demand (c : Call) : Type 0 where
  pub every : All (FairRound c) (rounds_of c)
  -- a call with fewer rounds has the front of the list
  pub front : (k : ℕ) → k ≤ c.options.iterations → rounds_of (of_rounds k c) ≡ take k (rounds_of c)
  -- what is kept is what the call leaves not zero if that round is its last
  pub leaves : (before : List Round) (r : Round) (next : Start) → rounds_of (of_rounds (suc (length before)) c) ≡ before ++ (r ∷ []) → r.after ≡ goes_on next
      → searched (of_rounds (suc (length before)) c) ≡ record { finding = Nothing; rows = stored c.store next.kept; used = next.used }
