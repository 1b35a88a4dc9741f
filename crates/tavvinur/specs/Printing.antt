-- What crosses to C and Rust of a run at the counter: the runner's answer and the bytes written, as one flat struct.
use Rattle.std.specs.Prelude.{List, ◌≡◌, ℕ}
use Rattle.answers.specs.Numbers.{error_number}
use Rattle.answers.specs.declared.answer.Answer.{Answer}
use Rattle.answers.specs.declared.error.ExecutorError.TheVariants.{OutputFull}
use Rattle.executor.specs.Entries.{Answered, run_answer}
use Rattle.rows.specs.Rows.{row}
use Rattle.loader.specs.Loading.{Program}
use Rattle.runner.specs.Entry as counter
use Rattle.runner.specs.Resuming as resuming
use Rattle.runner.specs.Resuming.{Numbered}
use Rattle.tavvinur.specs.Flat.{left, left_by_run}
use Rattle.tavvinur.specs.declared.Printed.{Printed}

-- the lent words, marks and output after a call, with its answer
pub record Left : Type 0 where
  pub words : List ℕ
  pub marks : List ℕ
  pub output : List ℕ
  pub printed : Printed

abbrev pub printed_left : List ℕ → List ℕ → List ℕ → Printed → Left
printed_left words marks output p = record { words = words; marks = marks; output = output; printed = p }

abbrev pub flat_printed : Answer → ℕ → Printed
flat_printed a written = record { number = a.number; pc = a.pc; value = a.value; used = a.used; written = written }

abbrev pub left_by_runner : counter.Left → Left
left_by_runner x = printed_left x.row.words x.row.marks x.output (flat_printed (run_answer x.printed.answer) x.printed.written)

abbrev pub program_left : ℕ → ℕ → ℕ → Program → List ℕ → List ℕ → List ℕ → List ℕ → Left
program_left memory log step p input words marks output = left_by_runner (counter.run_program memory log step p input (row words marks) output)

abbrev pub going_left : ℕ → ℕ → ℕ → List ℕ → List ℕ → List ℕ → List ℕ → Left
going_left memory log step input words marks output = left_by_runner (counter.go_on memory log step input (row words marks) output)

-- the answer of a run, whose row is 0
abbrev pub answer_in : Printed → Answer
answer_in p = record { number = p.number; row = 0; pc = p.pc; value = p.value; used = p.used }

-- unless the number is 71, words, marks and answer are those of one run without an output
abbrev pub OneRun : Answered → List ℕ → List ℕ → Printed → Type 0
OneRun one words marks printed = (printed.number ≡ error_number OutputFull → ⊥) → left words marks (answer_in printed) ≡ left_by_run one

-- what a call leaves, as the promise of stopping and going on speaks of it
abbrev pub numbered_as : List ℕ → List ℕ → List ℕ → Printed → Numbered
numbered_as words marks output p = resuming.numbered_as words marks output (answer_in p) p.written
