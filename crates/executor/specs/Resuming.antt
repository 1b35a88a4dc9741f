-- Stop and go on (document 02, change 7): a run that answers 22, and then one on the row that it left with the rest of the tape, are one run of all their instructions.
use Rattle.std.specs.Prelude.{Ok, List, ◌≡◌, ℕ, ◌+◌, ◌≤◌, ◌<◌, ◌^◌, drop}
use Rattle.answers.specs.Numbers.{progress_number}
use Rattle.answers.specs.declared.answer.Answer.{Answer}
use Rattle.answers.specs.declared.outcome.Progress.TheVariants.{Running}
use Rattle.rows.specs.Rows.{Row, row, limit_of, set_limit}
use Rattle.executor.specs.Entries.{Answered, run_checked, run_entry, run_answer}

-- the row that a run leaves, and its answer in numbers
pub record Numbered : Type 0 where
  pub row : Row
  pub answer : Answer

abbrev pub numbered_as : List ℕ → List ℕ → Answer → Numbered
numbered_as words marks a = record { row = row words marks; answer = a }

abbrev pub numbered : Answered → Numbered
numbered x = numbered_as x.row.words x.row.marks (run_answer x.answer)

-- the answer is 22: the run stopped at its limit
abbrev pub AtItsLimit : Answer → Type 0
AtItsLimit a = a.number ≡ progress_number Running

-- an answer to a run on the rest of a tape, as to a run on the whole of it: so many words were used before
abbrev pub used_before : ℕ → Answer → Answer
used_before n a = record { number = a.number; row = a.row; pc = a.pc; value = a.value; used = n + a.used }

-- what two runs come to: y had what x left of the tape
abbrev pub joined : Numbered → Numbered → Numbered
joined x y = record { row = y.row; answer = used_before x.answer.used y.answer }

-- x is what a run on a tape left, single what one run leaves that has b instructions more
pub record GoesOn (memory log b : ℕ) (tape : List ℕ) (x single : Numbered) : Type 0 where
  -- after 22 a run of b goes on: it is accepted, and the two come to the same as the single run, in answer, row and tape use
  pub goes_on : AtItsLimit x.answer → limit_of x.row ≤ 2 ^ 63
      → (run_checked memory log x.row ≡ Ok tt)
      × (joined x (numbered (run_entry memory log b (drop x.answer.used tape) x.row)) ≡ single)
  -- anything else is also the answer of the single run, and the rows differ in the limit word alone
  pub ends : (AtItsLimit x.answer → ⊥) → single ≡ record { row = set_limit (limit_of x.row + b) x.row; answer = x.answer }

-- so of what a run of a instructions leaves, where its row is accepted and a + b is a number of 32 bits
abbrev pub StopAndGoOn : ℕ → ℕ → ℕ → List ℕ → Row → Numbered → Type 0
StopAndGoOn memory log a tape r x =
    run_checked memory log r ≡ Ok tt → (b : ℕ) → a + b < 2 ^ 32 → GoesOn memory log b tape x (numbered (run_entry memory log (a + b) tape r))
