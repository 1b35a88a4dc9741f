-- The bound for both entries: a call that is accepted scores its rows, and each score is finite, at least 1, and within one part
-- in 2^32 of its exact mean.
use Rattle.std.proofs.Common.{◌≡◌, refl, ◌∙◌, List, [], ◌∷◌, map, ℕ, ◌/◌, ◌≤◌, le_trans, arith, Float, length, Result, Ok}
use mathlib.Core.List.{Memᴰ}
use Rattle.rows.specs.Limits.{most_rows}
use Rattle.rows.specs.Rows.{Row}
use Rattle.store.specs.Store.{most_marks, layout}
use Rattle.store.proofs.Rows.{length_rows}
use Rattle.checks.specs.declared.refusal.Refusal.{Refusal}
use Rattle.means.specs.declared.MeanType.{MeanType}
use Rattle.rarity.specs.Scores.{score}
use Rattle.rarity.proofs.Bounds.{scored, scores_ordered}
use Rattle.tables.proofs.Stores.{cut_short}
use Rattle.scoring.specs.Entry.{scoring_checked, scoring_answer, scores_left, store_rows, store_scores, Bounded, AlwaysScored, ScoresBounded}
use Rattle.scoring.specs.declared.ScoringError.{ScoringError}
use Rattle.scoring.proofs.Accepted.{Sizes, sizes_accepted}

-- some rows, scored among all
bounded_among : (m : MeanType) (all : List Row) → length all ≤ most_rows → ((r : Row) → Memᴰ r all → length r.marks ≤ most_marks)
    → (rows : List Row) → ((r : Row) → Memᴰ r rows → Memᴰ r all) → Bounded m all rows (map (score m all) rows)
bounded_among m all few short [] among = tt
bounded_among m all few short (r ∷ rows) among =
    let i = among r (Memᴰ.head refl) in
    (scored all few m i (short r i), bounded_among m all few short rows (λ q j. among q (Memᴰ.tail j)))

-- what either entry answers and leaves where its tests pass, which say what the sizes are
module _ (memory log rows : ℕ) (m : MeanType) (words marks : List ℕ) (lent : List Float) {checked : Result (Unit {0}) Refusal}
    (sizes : checked ≡ Ok tt → Sizes memory log rows words marks (length lent)) (h : checked ≡ Ok tt) where
  few : length (store_rows memory log rows words marks) ≤ most_rows
  few =
      let s = layout rows (memory / 8) log in
      omega (arith, length_rows rows s.words s.marks words marks, (sizes h).fit.sized.few)

  short : (r : Row) → Memᴰ r (store_rows memory log rows words marks) → length r.marks ≤ most_marks
  short r i =
      let s = layout rows (memory / 8) log in
      le_trans (cut_short rows s.words s.marks words marks r i) (sizes h).fit.sized.memory

  pub scored_answer : scoring_answer checked (store_scores memory log rows m words marks) ≡ Ok tt
  unfolding scoring_answer
  scored_answer = rw (h, scores_ordered _ _ few short)

  pub bounded_scores : {A : Type 0} {x : A} {a : Result A ScoringError} {scores : List Float} → a ≡ Ok x
      → scores ≡ scores_left a (store_scores memory log rows m words marks) lent
      → Bounded m (store_rows memory log rows words marks) (store_rows memory log rows words marks) scores
  unfolding scores_left
  bounded_scores e l =
      let all = store_rows memory log rows words marks in
      rw (l, e) (bounded_among m all few short all (λ r i. i))

-- the four clauses of the entry that counts over the rows
module _ (memory log rows : ℕ) (m : MeanType) (words marks : List ℕ) (lent : List Float) where
  abbrev Answers : Result (Unit {0}) ScoringError → Type 0
  Answers a = a ≡ scoring_answer (scoring_checked memory log rows words marks lent) (store_scores memory log rows m words marks)

  abbrev Leaves : Result (Unit {0}) ScoringError → List Float → Type 0
  Leaves a scores = scores ≡ scores_left a (store_scores memory log rows m words marks) lent

  pub promised : {a : Result (Unit {0}) ScoringError} {scores : List Float} → Answers a → Leaves a scores → record {
    value : Answers a;
    scores_after : Leaves a scores;
    always_scored : AlwaysScored memory log rows words marks lent a;
    scores_bounded : ScoresBounded memory log rows m words marks lent scores;
  }
  unfolding scoring_checked
  promised {a} e l =
      let sizes = sizes_accepted memory log rows words marks (length lent) _ refl in
      let always : AlwaysScored memory log rows words marks lent a = λ h. e ∙ scored_answer memory log rows m words marks lent sizes h in
      record {
        value = e;
        scores_after = l;
        always_scored = always;
        scores_bounded = λ h. bounded_scores memory log rows m words marks lent sizes h (always h) l;
      }
