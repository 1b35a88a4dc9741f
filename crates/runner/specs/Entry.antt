-- The counter runner's entries: a label program is loaded and run on a keyed order, and a row that was run before goes on. What is refused changes nothing.
use Rattle.std.specs.Prelude.{Result, Ok, Err, List, ◌≡◌, ℕ, length}
use Rattle.answers.specs.Numbers.{error_number}
use Rattle.answers.specs.declared.error.ExecutorError.TheVariants.{OutputFull}
use Rattle.rows.specs.Rows.{Row, row}
use Rattle.loader.specs.Loading.{Program}
use Rattle.machine.specs.declared.run.Ran.{Ran}
use Rattle.checks.specs.declared.refusal.Refusal.{Refusal}
use Rattle.executor.specs.Entries.{creation_checked, created_row, run_checked, Answered, run_answered, run_answer}
use Rattle.writing.specs.Written.{written}
use Rattle.runner.specs.Serving.{Served, served_of}
use Rattle.runner.specs.declared.Printed.{Printed}

-- what a call leaves of the lent row and output, and what it answers
pub record Left : Type 0 where
  pub row : Row
  pub output : List ℕ
  pub printed : Printed

abbrev pub left : List ℕ → List ℕ → List ℕ → Printed → Left
left words marks output printed = record { row = row words marks; output = output; printed = printed }

-- what is answered of a run that was made
abbrev pub printed : Ran → ℕ → Printed
printed ran written = record { answer = Ok ran; written = written }

-- and of a call that is refused
abbrev pub refused : Refusal → Printed
refused f = record { answer = Err f; written = 0 }

-- the output begins with what was written, and its other bytes are untouched
abbrev pub left_by : Served → List ℕ → Left
left_by x output =
    record {
      row = x.finished.row;
      output = written x.output output;
      printed = printed x.finished.ran (length x.output);
    }

unfoldable pub served_entry : Result (Unit {0}) Refusal → ℕ → List ℕ → Row → List ℕ → Left
served_entry (Ok t) step input r output = left_by (served_of step input (length output) 0 r) output
served_entry (Err f) step input r output = record { row = r; output = output; printed = refused f }

-- 1, 4, 5, then 6 and 7, as for a new executor; then one run of it, with the order's words as its tape
unfoldable pub run_program : ℕ → ℕ → ℕ → Program → List ℕ → Row → List ℕ → Left
run_program memory log step p input r output =
    let c = creation_checked memory log p r in
    served_entry c step input (created_row c p r) output

-- 1, 4, 5, then 9, as for a run; then one run of the row as it was lent
unfoldable pub go_on : ℕ → ℕ → ℕ → List ℕ → Row → List ℕ → Left
go_on memory log step input r output = served_entry (run_checked memory log r) step input r output

-- a program's run without an output
abbrev pub one_run : ℕ → ℕ → ℕ → Program → List ℕ → Row → Answered
one_run memory log step p input r =
    let c = creation_checked memory log p r in
    run_answered c step input (created_row c p r)

-- unless the answer is 71, row, answer and input words taken are those of one run without an output, limit word included
abbrev pub OneRun : Answered → Answered → Type 0
OneRun one x = ((run_answer x.answer).number ≡ error_number OutputFull → ⊥) → x ≡ one
