-- What the entry that counts in a lent table promises.
use Rattle.std.proofs.Common.{◌≡◌, refl, ◌∙◌, List, ℕ, ◌+◌, ◌*◌, ◌/◌, ◌≤◌, ◌<◌, eqb-true, arith, Float, length, Result, Ok, Err, IfOk}
use Rattle.std.proofs.lemmas.List.{length-replicate}
use Rattle.checks.specs.Tests.{checked_by}
use Rattle.checks.specs.declared.refusal.Refusal.{Refusal}
use Rattle.checks.proofs.Tests.{all_pass}
use Rattle.store.specs.declared.layout.Layout.{Layout}
use Rattle.store.specs.Store.{layout, memory_of}
use Rattle.store.proofs.Rows.{length_rows}
use Rattle.means.specs.declared.MeanType.{MeanType}
use Rattle.tables.specs.Tables.{table_length, increments, zeros}
use Rattle.tables.specs.Lent.{table_left, ZeroTable}
use Rattle.tables.proofs.Lending.{cleared}
use Rattle.tables.proofs.Stores.{cut_short}
use Rattle.tables.proofs.Totals.{increments_most}
use Rattle.scoring.specs.Entry.{scoring_answer, scores_left, store_rows, store_scores}
use Rattle.scoring.specs.ByTable.{table_size_tests, table_scoring_checked, table_scoring_answer, uncounted, with_increments, TableAlwaysScored, TableScoresBounded}
use Rattle.scoring.specs.declared.ScoringError.{ScoringError}
use Rattle.scoring.proofs.Accepted.{sizes_accepted}
use Rattle.scoring.proofs.Scored.{scored_answer, bounded_scores}

-- a table that passes, once it is cleared
module _ (memory log rows words marks scores : ℕ) (table : List ℕ) {r : Result (Unit {0}) Refusal}
    (e : r ≡ checked_by (table_size_tests memory log rows words marks (length table) scores)) (h : r ≡ Ok tt)
    {after : List ℕ} (z : after ≡ zeros (length table)) where
  exact : length table ≡ table_length (memory / 8)
  exact = eqb-true (length table) (table_length (memory / 8)) (all_pass _ e h).1.1.1.1.0

  pub zero_table : {s : Layout} → s ≡ layout rows (memory / 8) log → ZeroTable (memory_of s) after
  zero_table is = rw is (cleared table (omega (arith, exact)) z)

  pub some_counters : 0 < length after
  some_counters = rw (z, length-replicate) (omega (arith, exact))

-- an answer with its number
with_number : (n : ℕ) (a : Result ℕ ScoringError) {b : Result (Unit {0}) ScoringError} → uncounted a ≡ b → IfOk a (λ k. k ≡ n) → a ≡ with_increments b n
with_number n (Ok k) e i = rw (← e, i)
with_number n (Err f) e i = rw (← e)

-- eight addresses at most for pc, each register and each memory word of a row
store_increments : (memory log rows : ℕ) (words marks : List ℕ) → increments (store_rows memory log rows words marks) ≤ 8 * (33 + memory / 8) * rows
store_increments memory log rows words marks =
    let s = layout rows (memory / 8) log in
    let most = increments_most s.marks (store_rows memory log rows words marks) (cut_short rows s.words s.marks words marks) in
    omega (arith, rw (length_rows rows s.words s.marks words marks) at most)

module _ (memory log rows : ℕ) (m : MeanType) (words marks table : List ℕ) (lent : List Float) where
  -- but for the number, what is answered
  abbrev Answers : Result ℕ ScoringError → Type 0
  Answers a = uncounted a ≡ scoring_answer (table_scoring_checked memory log rows words marks table lent) (store_scores memory log rows m words marks)

  abbrev Counts : Result ℕ ScoringError → Type 0
  Counts a = IfOk a (λ n. n ≡ increments (store_rows memory log rows words marks))

  abbrev Leaves : Result ℕ ScoringError → List Float → Type 0
  Leaves a scores = scores ≡ scores_left a (store_scores memory log rows m words marks) lent

  abbrev LeavesTable : List ℕ → Type 0
  LeavesTable after = after ≡ table_left (table_scoring_checked memory log rows words marks table lent) table

  -- the five clauses of the entry
  pub promised : {a : Result ℕ ScoringError} {scores : List Float} {after : List ℕ} → Answers a → Counts a → Leaves a scores → LeavesTable after → record {
    value : a ≡ table_scoring_answer memory log rows m words marks table lent;
    scores_after : Leaves a scores;
    table_after : LeavesTable after;
    always_scored : TableAlwaysScored memory log rows words marks table lent a;
    scores_bounded : TableScoresBounded memory log rows m words marks table lent scores;
  }
  unfolding table_scoring_checked
  promised {a} e i l t =
      let sizes = sizes_accepted memory log rows words marks (length lent) _ refl in
      let always : table_scoring_checked memory log rows words marks table lent ≡ Ok tt → a ≡ Ok (increments (store_rows memory log rows words marks)) =
      λ h. with_number _ a (e ∙ scored_answer memory log rows m words marks lent sizes h) i in
      record {
        value = with_number _ a e i;
        scores_after = l;
        table_after = t;
        always_scored = λ h. (always h, store_increments memory log rows words marks);
        scores_bounded = λ h. bounded_scores memory log rows m words marks lent sizes h (always h) l;
      }
