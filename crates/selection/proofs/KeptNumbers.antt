-- The numbers that are kept are numbers of rows, each once.
use Rattle.std.proofs.Common.{Bool, true, false, List, [], ◌∷◌, ◌++◌, ◌≡◌, sym, ap, ◌∙◌, ℕ, suc, ◌+◌, ◌≤◌, ◌<◌, arith, Float, length, get_or}
use lib.Ieee.{nan}
use Rattle.std.proofs.Math.ListN.{length-map}
use Rattle.laws.proofs.Lists.{map_get}
use Rattle.rounds.specs.Selection.{rarest}
use Rattle.rounds.specs.Demand.{Permutation, All, nil, cons}
use Rattle.rounds.proofs.Lists.{all_permuted, all_left, all_at, all_with}
use Rattle.rounds.proofs.Choosing.{rarest_each_once, rarest_as_many}
use Rattle.selection.specs.declared.order.ScoredRow.{ScoredRow}
use Rattle.selection.specs.Selecting.{candidates, lower_score, number_of, kept_numbers}
use Rattle.selection.specs.Places.{Numbers}
use Rattle.selection.proofs.Pairs.{Pairs, no_pair, pairs, pairs_at, pairs_left, pairs_permuted}
use Rattle.selection.proofs.Finding.{candidates_few}

-- the number of a row from i on, below n
record Between (i n : ℕ) (x : ScoredRow) : Type 0 where
  low : i ≤ x.row
  high : x.row < n

abbrev Apart : ScoredRow → ScoredRow → Type 0
Apart x y = x.row ≡ y.row → ⊥

apart_flip : (x y : ScoredRow) → Apart x y → Apart y x
apart_flip x y h e = h (sym e)

later : (i n : ℕ) (x : ScoredRow) → Between (suc i) n x → Between i n x
later i n x b = record { low = omega (arith, b.low); high = b.high }

after : (i n : ℕ) (s : Float) (x : ScoredRow) → Between (suc i) n x → Apart (record { row = i; score = s }) x
after i n s x b e = omega (arith, b.low)

candidates_between : (i n : ℕ) (scores : List Float) (flags : List Bool) → i + length scores ≤ n → All (Between i n) (candidates i scores flags)
unfolding candidates
candidates_between i n [] flags h = nil
candidates_between i n (s ∷ scores) [] h = nil
candidates_between i n (s ∷ scores) (true ∷ flags) h =
    let b : Between i n (record { row = i; score = s }) = record { low = omega arith; high = omega arith } in
    cons b (all_with (later i n) (candidates_between (suc i) n scores flags (omega arith)))
candidates_between i n (s ∷ scores) (false ∷ flags) h = all_with (later i n) (candidates_between (suc i) n scores flags (omega arith))

candidates_apart : (i : ℕ) (scores : List Float) (flags : List Bool) → Pairs Apart (candidates i scores flags)
unfolding candidates
candidates_apart i [] flags = no_pair
candidates_apart i (s ∷ scores) [] = no_pair
candidates_apart i (s ∷ scores) (true ∷ flags) =
    let n = suc i + length scores in
    pairs (all_with (after i n s) (candidates_between (suc i) n scores flags (omega arith))) (candidates_apart (suc i) scores flags)
candidates_apart i (s ∷ scores) (false ∷ flags) = candidates_apart (suc i) scores flags

module _ (k : ℕ) (scores : List Float) (flags : List Bool) {order : List ℕ} (same : order ≡ kept_numbers k scores flags) where
  abbrev chosen : List ScoredRow
  chosen = (rarest lower_score k (candidates 0 scores flags)).kept

  abbrev passed : List ScoredRow
  passed = (rarest lower_score k (candidates 0 scores flags)).passed

  once : Permutation (chosen ++ passed) (candidates 0 scores flags)
  once = rarest_each_once lower_score k (candidates 0 scores flags)

  abbrev no_row : ScoredRow
  no_row = record { row = 0; score = nan }

  short : length order ≡ length chosen
  unfolding kept_numbers
  short = ap (λ (l : List ℕ). length l) same ∙ length-map chosen number_of

  entry : (j : ℕ) → j < length order → get_or order j 0 ≡ (get_or chosen j no_row).row
  unfolding kept_numbers
  entry j h = ap (λ (l : List ℕ). get_or l j 0) same ∙ map_get number_of chosen j no_row 0 (omega (arith, short))

  pub numbers : {n : ℕ} → length scores ≡ n → Numbers n order
  numbers {n} e =
      let f : length order ≤ n = omega (arith, short, rarest_as_many lower_score k (candidates 0 scores flags), candidates_few 0 scores flags) in
      record { few = f; within = λ j h. in_rows j h; apart = λ a b h l q. two a b h l q }
    where
      in_rows : (j : ℕ) → j < length order → get_or order j 0 < n
      in_rows j h =
          let a = all_left chosen passed (all_permuted once (candidates_between 0 n scores flags (omega arith))) in
          let b = all_at chosen j no_row (omega (arith, short)) a in
          omega (arith, b.high, entry j h)

      two : (a b : ℕ) → a < b → b < length order → get_or order a 0 ≡ get_or order b 0 → ⊥
      two a b h l q =
          let p = pairs_left chosen passed (pairs_permuted apart_flip once (candidates_apart 0 scores flags)) in
          pairs_at chosen a b no_row h (omega (arith, short)) p (sym (entry a (omega arith)) ∙ q ∙ entry b l)
