-- The scoring entry that counts in a lent table: what it refuses, what it answers, and the scores that it leaves, which are the other entry's.
use Rattle.std.specs.Prelude.{Result, Ok, Err, List, [], ◌∷◌, ◌++◌, ◌≡◌, ℕ, ◌+◌, ◌*◌, ◌/◌, ◌≤◌, Float, length}
use Rattle.checks.specs.Tests.{Test, test, checked_by}
use Rattle.checks.specs.declared.refusal.Refusal.{Refusal}
use Rattle.checks.specs.declared.refusal.Refusal.TheVariants.{InvalidRow}
use Rattle.means.specs.declared.MeanType.{MeanType}
use Rattle.tables.specs.Lent.{table_test}
use Rattle.tables.specs.Tables.{increments}
use Rattle.scoring.specs.Entry.{all_valid, store_rows, size_tests, scoring_answer, store_scores, Bounded}
use Rattle.scoring.specs.declared.ScoringError.{ScoringError}

-- 1, 2, 4, 5, then 32, of so many words, marks, counters and scores
abbrev pub table_size_tests : ℕ → ℕ → ℕ → ℕ → ℕ → ℕ → ℕ → List Test
table_size_tests memory log rows words marks table scores =
    size_tests memory log rows words marks scores ++ (table_test (memory / 8) table ∷ [])

-- then 9
unfoldable pub table_scoring_checked : ℕ → ℕ → ℕ → List ℕ → List ℕ → List ℕ → List Float → Result (Unit {0}) Refusal
table_scoring_checked memory log rows words marks table scores =
    checked_by
    (table_size_tests memory log rows (length words) (length marks) (length table) (length scores)
    ++ (test (all_valid (store_rows memory log rows words marks)) InvalidRow ∷ []))

-- where rows are scored, the number of increments
abbrev pub with_increments : Result (Unit {0}) ScoringError → ℕ → Result ℕ ScoringError
with_increments (Ok t) n = Ok n
with_increments (Err e) n = Err e

-- a stepping stone: the same without the number
abbrev pub uncounted : Result ℕ ScoringError → Result (Unit {0}) ScoringError
uncounted (Ok n) = Ok tt
uncounted (Err e) = Err e

-- as the other entry answers, with the number of increments
abbrev pub table_scoring_answer : ℕ → ℕ → ℕ → MeanType → List ℕ → List ℕ → List ℕ → List Float → Result ℕ ScoringError
table_scoring_answer memory log rows m words marks table scores =
    with_increments
    (scoring_answer (table_scoring_checked memory log rows words marks table scores) (store_scores memory log rows m words marks))
    (increments (store_rows memory log rows words marks))

-- of a call that is not refused: 31 is never given, and the increments are at most eight for pc, each register and each memory word of a row
abbrev pub TableAlwaysScored : ℕ → ℕ → ℕ → List ℕ → List ℕ → List ℕ → List Float → Result ℕ ScoringError → Type 0
TableAlwaysScored memory log rows words marks table scores a =
    table_scoring_checked memory log rows words marks table scores ≡ Ok tt
    → (a ≡ Ok (increments (store_rows memory log rows words marks))) × (increments (store_rows memory log rows words marks) ≤ 8 * (33 + memory / 8) * rows)

-- of a call that is not refused: the scores that it leaves keep the bound
abbrev pub TableScoresBounded : ℕ → ℕ → ℕ → MeanType → List ℕ → List ℕ → List ℕ → List Float → List Float → Type 0
TableScoresBounded memory log rows m words marks table lent scores =
    table_scoring_checked memory log rows words marks table lent ≡ Ok tt
    → Bounded m (store_rows memory log rows words marks) (store_rows memory log rows words marks) scores
