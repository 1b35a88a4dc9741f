-- What an entry's tests that passed, or did not, say. Each entry tests sizes first, and then the rows.
use Rattle.std.proofs.Common.{◌≡◌, ap, ◌∙◌, Bool, List, [], ◌∷◌, ◌++◌, ℕ, ◌/◌, ◌≤◌, eqb, eqb-true, Float, length, Result, Ok, Err}
use Rattle.laws.proofs.Choices.{parts}
use Rattle.rows.specs.Limits.{most_memory, most_log}
use Rattle.checks.specs.Refusals.{are_lengths}
use Rattle.checks.specs.Tests.{Test, test, checked_by}
use Rattle.checks.specs.declared.refusal.Refusal.{Refusal}
use Rattle.checks.specs.declared.refusal.Refusal.TheVariants.{InvalidRow}
use Rattle.checks.proofs.Passed.{store_lengths, log_size_passed}
use Rattle.checks.proofs.Tests.{all_pass, then_test}
use Rattle.store.specs.declared.layout.Layout.{Layout}
use Rattle.store.specs.Store.{layout, rows_of, Fit}
use Rattle.store.proofs.Lent.{lengths_fit}
use Rattle.rarity.specs.Scores.{are_ordered}
use Rattle.scoring.specs.Entry.{all_valid, store_rows, size_tests, ordered_answer, scoring_answer}
use Rattle.scoring.specs.declared.ScoringError.{ScoringError}
use Rattle.scoring.specs.declared.ScoringError.TheVariants.{Refused}

-- sizes that pass
pub record Sizes (memory log rows : ℕ) (words marks : List ℕ) (scores : ℕ) : Type 0 where
  pub fit : Fit (layout rows (memory / 8) log) words marks
  pub memory_most : memory / 8 ≤ most_memory
  pub log_most : log ≤ most_log
  pub one_each : scores ≡ rows

-- whatever is tested after them
pub sizes_accepted : (memory log rows : ℕ) (words marks : List ℕ) (scores : ℕ) (others : List Test) {r : Result (Unit {0}) Refusal}
    → r ≡ checked_by (size_tests memory log rows (length words) (length marks) scores ++ others) → r ≡ Ok tt → Sizes memory log rows words marks scores
sizes_accepted memory log rows words marks scores others e h =
    let p = all_pass _ e h in
    let both = parts (are_lengths rows (memory / 8) log (length words) (length marks)) (eqb scores rows) p.1.1.1.0 in
    let b = store_lengths memory rows log (length words) (length marks) p.0 p.1.0 both.0 in
    record {
      fit = lengths_fit rows (memory / 8) log b.0 b.1 b.2 b.3 b.4;
      memory_most = b.2;
      log_most = log_size_passed log p.1.1.0;
      one_each = eqb-true _ _ both.1;
    }

-- what an entry's tests come to once the rows are looked at
pub rows_checked : (memory log rows : ℕ) (words marks : List ℕ) (sizes : List Test) {r : Result (Unit {0}) Refusal} → r ≡ checked_by sizes → r ≡ Ok tt
    → {s : Layout} → s ≡ layout rows (memory / 8) log → {valid : Bool} → valid ≡ all_valid (rows_of s words marks)
    → {tested : Result (Unit {0}) Refusal} → tested ≡ checked_by (test valid InvalidRow ∷ [])
    → checked_by (sizes ++ (test (all_valid (store_rows memory log rows words marks)) InvalidRow ∷ [])) ≡ tested
rows_checked memory log rows words marks sizes e h is v d =
    then_test sizes e InvalidRow h (v ∙ ap (λ (q : Layout). all_valid (rows_of q words marks)) is) d

-- what is answered
module _ {checked : Result (Unit {0}) Refusal} (scores : List Float) {a : Result (Unit {0}) ScoringError} where
  pub refused_answer : {f : Refusal} → checked ≡ Err f → a ≡ Err (Refused f) → a ≡ scoring_answer checked scores
  unfolding scoring_answer
  refused_answer h e = rw (h, e)

  pub valid_answer : checked ≡ Ok tt → a ≡ ordered_answer (are_ordered scores) → a ≡ scoring_answer checked scores
  unfolding scoring_answer
  valid_answer h e = rw (h, e)
