-- An answer in numbers, as a host gets it.
use Rattle.std.specs.Prelude.{ℕ}
use Rattle.answers.specs.declared.answer.Answer.{Answer}

-- a refused call or sheet has zeros after its number
abbrev pub refused_answer : ℕ → Answer
refused_answer number = record { number = number; row = 0; pc = 0; value = 0; used = 0 }
