-- A run never changes the lengths of a row, nor its word `born`.
use Rattle.std.proofs.Common.{List, ◌≡◌, refl, ◌∙◌, ℕ, ◌+◌, arith, length, length-set, get_or-set_other}
use Rattle.rows.specs.Rows.{Row, limit_of, born_of, set_limit}
use Rattle.machine.specs.Steps.{advanced}
use Rattle.machine.specs.Runs.{run_for, run_of}
use Rattle.machine.proofs.Kept.{advanced_words, advanced_marks, advanced_born}
use Rattle.invariants.proofs.Runs.{run_for_keeps, run_keeps}

-- f is what every instruction keeps
module _ {A : Type 0} (f : Row → A) (each : (tape : List ℕ) (used : ℕ) (r : Row) → f (advanced tape used r).row ≡ f r) where
  run_for_same : (n : ℕ) (tape : List ℕ) (used : ℕ) (r : Row) → f (run_for n tape used r).row ≡ f r
  run_for_same n tape used r = run_for_keeps (λ s. f s ≡ f r) tape (λ u s k. each tape u s ∙ k) n used r refl

  run_same : ((x : ℕ) (r : Row) → f (set_limit x r) ≡ f r) → (step : ℕ) (tape : List ℕ) (used : ℕ) (r : Row) → f (run_of step tape used r).row ≡ f r
  run_same limit step tape used r = run_keeps (λ s. f s ≡ f r) tape (λ u s k. each tape u s ∙ k) step used r (limit (limit_of r + step) r)

pub run_for_words : (n : ℕ) (tape : List ℕ) (used : ℕ) (r : Row) → length (run_for n tape used r).row.words ≡ length r.words
run_for_words = run_for_same (λ r. length r.words) advanced_words

pub run_for_marks : (n : ℕ) (tape : List ℕ) (used : ℕ) (r : Row) → length (run_for n tape used r).row.marks ≡ length r.marks
run_for_marks = run_for_same (λ r. length r.marks) advanced_marks

pub run_words : (step : ℕ) (tape : List ℕ) (used : ℕ) (r : Row) → length (run_of step tape used r).row.words ≡ length r.words
run_words = run_same (λ r. length r.words) advanced_words (λ x r. length-set r.words 3 x)

pub run_marks : (step : ℕ) (tape : List ℕ) (used : ℕ) (r : Row) → length (run_of step tape used r).row.marks ≡ length r.marks
run_marks = run_same (λ r. length r.marks) advanced_marks (λ x r. refl)

pub run_born : (step : ℕ) (tape : List ℕ) (used : ℕ) (r : Row) → born_of (run_of step tape used r).row ≡ born_of r
run_born = run_same born_of advanced_born (λ x r. get_or-set_other r.words 3 5 x 0 (λ e. omega arith))
