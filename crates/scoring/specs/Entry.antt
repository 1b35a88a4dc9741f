-- The scoring entry: what it refuses, what it answers, and the scores that it leaves.
use Rattle.std.specs.Prelude.{Result, Ok, Err, Bool, true, cond, ◌&&◌, List, [], ◌∷◌, ◌++◌, ◌≡◌, ℕ, ◌/◌, eqb, Float, length}
use Rattle.rows.specs.Rows.{Row}
use Rattle.rows.specs.Valid.{valid_row}
use Rattle.checks.specs.Refusals.{refusal_number, is_memory_size, is_amount_of_states, is_log_size, are_lengths}
use Rattle.checks.specs.Tests.{Test, test, checked_by}
use Rattle.checks.specs.declared.refusal.Refusal.{Refusal}
use Rattle.checks.specs.declared.refusal.Refusal.TheVariants.{MemorySize, AmountOfStates, LogSize, LentLengths, InvalidRow}
use Rattle.means.specs.declared.MeanType.{MeanType}
use Rattle.means.specs.Means.{Scores, exact_mean}
use Rattle.counting.specs.Counters.{counters_of}
use Rattle.store.specs.Store.{layout, rows_of}
use Rattle.rarity.specs.Scores.{scores_of, are_ordered}
use Rattle.scoring.specs.declared.ScoringError.{ScoringError}
use Rattle.scoring.specs.declared.ScoringError.TheVariants.{ScoresUnordered, Refused}

unfoldable pub all_valid : List Row → Bool
all_valid [] = true
all_valid (r ∷ rows) = valid_row r && all_valid rows

-- the rows of a lent store
abbrev pub store_rows : ℕ → ℕ → ℕ → List ℕ → List ℕ → List Row
store_rows memory log rows words marks = rows_of (layout rows (memory / 8) log) words marks

-- 1, 2, 4, 5 (one score a row) of so many words, marks and scores
abbrev pub size_tests : ℕ → ℕ → ℕ → ℕ → ℕ → ℕ → List Test
size_tests memory log rows words marks scores =
    test (is_memory_size memory) MemorySize
    ∷ test (is_amount_of_states rows) AmountOfStates
    ∷ test (is_log_size log) LogSize
    ∷ test (are_lengths rows (memory / 8) log words marks && eqb scores rows) LentLengths
    ∷ []

-- then 9
unfoldable pub scoring_checked : ℕ → ℕ → ℕ → List ℕ → List ℕ → List Float → Result (Unit {0}) Refusal
scoring_checked memory log rows words marks scores =
    checked_by
    (size_tests memory log rows (length words) (length marks) (length scores)
    ++ (test (all_valid (store_rows memory log rows words marks)) InvalidRow ∷ []))

-- 31 where scores cannot be ordered
abbrev pub ordered_answer : Bool → Result (Unit {0}) ScoringError
ordered_answer b = cond b (Ok tt) (Err ScoresUnordered)

unfoldable pub scoring_answer : Result (Unit {0}) Refusal → List Float → Result (Unit {0}) ScoringError
scoring_answer (Ok t) scores = ordered_answer (are_ordered scores)
scoring_answer (Err f) scores = Err (Refused f)

-- the lent scores afterwards: unchanged unless the rows are scored
unfoldable pub scores_left : {A : Type 0} → Result A ScoringError → List Float → List Float → List Float
scores_left (Ok a) scores lent = scores
scores_left (Err e) scores lent = lent

-- all rows are counted, and all are scored
abbrev pub store_scores : ℕ → ℕ → ℕ → MeanType → List ℕ → List ℕ → List Float
store_scores memory log rows m words marks = scores_of m (store_rows memory log rows words marks)

-- one score a row, each within the bound of the exact mean of the row's counters over all rows
abbrev pub Bounded : MeanType → List Row → List Row → List Float → Type 0
Bounded m all [] [] = Unit {0}
Bounded m all [] (x ∷ scores) = ⊥
Bounded m all (r ∷ rows) [] = ⊥
Bounded m all (r ∷ rows) (x ∷ scores) = Scores x (exact_mean m (counters_of all r)) × Bounded m all rows scores

-- of a call that is not refused: 31 is never given
abbrev pub AlwaysScored : ℕ → ℕ → ℕ → List ℕ → List ℕ → List Float → Result (Unit {0}) ScoringError → Type 0
AlwaysScored memory log rows words marks lent a = scoring_checked memory log rows words marks lent ≡ Ok tt → a ≡ Ok tt

-- of a call that is not refused: the scores that it leaves keep the bound
abbrev pub ScoresBounded : ℕ → ℕ → ℕ → MeanType → List ℕ → List ℕ → List Float → List Float → Type 0
ScoresBounded memory log rows m words marks lent scores =
    scoring_checked memory log rows words marks lent ≡ Ok tt
    → Bounded m (store_rows memory log rows words marks) (store_rows memory log rows words marks) scores

abbrev pub error_number : ScoringError → ℕ
error_number ScoresUnordered = 31
error_number (Refused f) = refusal_number f

abbrev pub scoring_number : {A : Type 0} → Result A ScoringError → ℕ
scoring_number (Ok a) = 0
scoring_number (Err e) = error_number e
