-- Stop and go on at the counter (document 02, change 7): a run that answers 22, and then one on the row that it left, with the rest of the input and of the
-- output, are one run of all their instructions.
use Rattle.std.specs.Prelude.{Ok, List, ◌++◌, ◌≡◌, ℕ, ◌+◌, ◌≤◌, ◌<◌, ◌^◌, take, drop}
use Rattle.answers.specs.declared.answer.Answer.{Answer}
use Rattle.rows.specs.Rows.{Row, row, limit_of, set_limit}
use Rattle.loader.specs.Loading.{Program}
use Rattle.executor.specs.Entries.{creation_checked, run_checked, run_answer}
use Rattle.executor.specs.Resuming.{AtItsLimit, used_before}
use Rattle.runner.specs.Entry.{Left, run_program, go_on}

-- what a call leaves of the lent row and output, its answer in numbers and the bytes that it wrote
pub record Numbered : Type 0 where
  pub row : Row
  pub output : List ℕ
  pub answer : Answer
  pub written : ℕ

abbrev pub numbered_as : List ℕ → List ℕ → List ℕ → Answer → ℕ → Numbered
numbered_as words marks output a written = record { row = row words marks; output = output; answer = a; written = written }

abbrev pub numbered : Left → Numbered
numbered x = numbered_as x.row.words x.row.marks x.output (run_answer x.printed.answer) x.printed.written

-- what two calls come to: y had what x left of the input and of the output
abbrev pub joined : Numbered → Numbered → Numbered
joined x y =
    record {
      row = y.row;
      output = take x.written x.output ++ y.output;
      answer = used_before x.answer.used y.answer;
      written = x.written + y.written;
    }

-- x is what a call left, single what one call leaves that has b instructions more
pub record GoesOn (memory log b : ℕ) (input : List ℕ) (x single : Numbered) : Type 0 where
  -- after 22 a call of b goes on: it is accepted, and the two come to the same as the single call
  pub goes_on : AtItsLimit x.answer → limit_of x.row ≤ 2 ^ 63
      → (run_checked memory log x.row ≡ Ok tt)
      × (joined x (numbered (go_on memory log b (drop x.answer.used input) x.row (drop x.written x.output))) ≡ single)
  -- anything else, 71 too, is also the answer of the single call, and the rows differ in the limit word alone
  pub ends : (AtItsLimit x.answer → ⊥)
      → single ≡ record { row = set_limit (limit_of x.row + b) x.row; output = x.output; answer = x.answer; written = x.written }

-- so of what a program's run of a instructions leaves, where it is accepted and a + b is a number of 32 bits. Its limit is then a, below 2^63
abbrev pub ProgramGoesOn : ℕ → ℕ → ℕ → Program → List ℕ → Row → List ℕ → Numbered → Type 0
ProgramGoesOn memory log a p input r output x =
    creation_checked memory log p r ≡ Ok tt → (b : ℕ) → a + b < 2 ^ 32
    → GoesOn memory log b input x (numbered (run_program memory log (a + b) p input r output))

-- and of what a call leaves that went on itself
abbrev pub RowGoesOn : ℕ → ℕ → ℕ → List ℕ → Row → List ℕ → Numbered → Type 0
RowGoesOn memory log a input r output x =
    run_checked memory log r ≡ Ok tt → (b : ℕ) → a + b < 2 ^ 32
    → GoesOn memory log b input x (numbered (go_on memory log (a + b) input r output))
