-- The entries over one lent row: a new executor, and a run. What is refused changes nothing.
use Rattle.std.specs.Prelude.{Result, Ok, Err, List, [], ◌∷◌, ◌++◌, ◌≡◌, ℕ, ◌/◌, length}
use Rattle.answers.specs.Answers.{refused_answer}
use Rattle.answers.specs.Numbers.{progress_number, progress_value}
use Rattle.answers.specs.declared.answer.Answer.{Answer}
use Rattle.answers.specs.declared.outcome.Outcome.TheVariants.{Exited, Found, Failed}
use Rattle.answers.specs.declared.outcome.Progress.{Progress}
use Rattle.answers.specs.declared.outcome.Progress.TheVariants.{Running, Ended}
use Rattle.rows.specs.Rows.{Row, row, born_of}
use Rattle.loader.specs.Loading.{Program, new_executor}
use Rattle.machine.specs.Runs.{run_of}
use Rattle.machine.specs.declared.run.Ran.{Ran}
use Rattle.checks.specs.Refusals.{refusal_number, is_memory_size, is_log_size, are_lengths}
use Rattle.checks.specs.Segments.{segment_tests}
use Rattle.checks.specs.Tests.{Test, test, checked_by}
use Rattle.rows.specs.Valid.{valid_row}
use Rattle.checks.specs.declared.refusal.Refusal.{Refusal}
use Rattle.checks.specs.declared.refusal.Refusal.TheVariants.{MemorySize, LogSize, LentLengths, InvalidRow}

-- 1, 4, 5
abbrev pub size_tests : ℕ → ℕ → Row → List Test
size_tests memory log r =
    test (is_memory_size memory) MemorySize
    ∷ test (is_log_size log) LogSize
    ∷ test (are_lengths 1 (memory / 8) log (length r.words) (length r.marks)) LentLengths
    ∷ []

-- a new executor: 1, 4, 5, then 6 and 7
unfoldable pub creation_checked : ℕ → ℕ → Program → Row → Result (Unit {0}) Refusal
creation_checked memory log p r = checked_by (size_tests memory log r ++ segment_tests (memory / 8) p)

-- the row afterwards
unfoldable pub created_row : Result (Unit {0}) Refusal → Program → Row → Row
created_row (Ok t) p r = new_executor p (length r.words) (length r.marks)
created_row (Err f) p r = r

-- an executor made outside a search has 0 in its word `born`, whatever the row held
abbrev pub BornAtZero : ℕ → ℕ → Program → Row → Row → Type 0
BornAtZero memory log p before after = creation_checked memory log p before ≡ Ok tt → born_of after ≡ 0

-- a run: 1, 4, 5, then 9
unfoldable pub run_checked : ℕ → ℕ → Row → Result (Unit {0}) Refusal
run_checked memory log r = checked_by (size_tests memory log r ++ (test (valid_row r) InvalidRow ∷ []))

pub record Answered : Type 0 where
  pub row : Row
  pub answer : Result Ran Refusal

abbrev pub answered : List ℕ → List ℕ → Result Ran Refusal → Answered
answered words marks a = record { row = row words marks; answer = a }

-- an accepted run starts at the front of the tape
unfoldable pub run_answered : Result (Unit {0}) Refusal → ℕ → List ℕ → Row → Answered
run_answered (Ok t) step tape r = let x = run_of step tape 0 r in record { row = x.row; answer = Ok x.ran }
run_answered (Err f) step tape r = record { row = r; answer = Err f }

unfoldable pub run_entry : ℕ → ℕ → ℕ → List ℕ → Row → Answered
run_entry memory log step tape r = run_answered (run_checked memory log r) step tape r

-- whatever a run comes to, the word `born` comes back as it was lent
abbrev pub BornKept : Row → Row → Type 0
BornKept before after = born_of after ≡ born_of before

-- a clean end names no pc
abbrev pub pc_of_end : Progress → ℕ → ℕ
pc_of_end Running pc = pc
pc_of_end (Ended Exited) pc = 0
pc_of_end (Ended (Found b)) pc = pc
pc_of_end (Ended (Failed e)) pc = pc

-- the answer in numbers; its row is 0
abbrev pub run_answer : Result Ran Refusal → Answer
run_answer (Err f) = refused_answer (refusal_number f)
run_answer (Ok x) =
    record {
      number = progress_number x.progress;
      row = 0;
      pc = pc_of_end x.progress x.pc;
      value = progress_value x.progress;
      used = x.used;
    }
