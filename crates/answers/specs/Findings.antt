-- Document 01's answer for every way in which a search can end.
use Rattle.std.specs.Prelude.{ℕ}
use Rattle.answers.specs.Numbers.{outcome_number, outcome_value}
use Rattle.answers.specs.declared.answer.Answer.{Answer}
use Rattle.answers.specs.declared.outcome.Outcome.{Outcome}
use Rattle.answers.specs.declared.outcome.Outcome.TheVariants as outcome
use Rattle.answers.specs.declared.finding.Finding.{Finding}
use Rattle.answers.specs.declared.finding.Finding.TheVariants.{Nothing, Found, Failed, TapeShort, ScoresUnordered}

-- bugs and executor errors carry the row and the pc before the instruction
abbrev pub in_row : Outcome → ℕ → ℕ → ℕ → Answer
in_row o row pc used = record { number = outcome_number o; row = row; pc = pc; value = outcome_value o; used = used }

-- other numbers carry neither
abbrev pub in_no_row : ℕ → ℕ → Answer
in_no_row number used = record { number = number; row = 0; pc = 0; value = 0; used = used }

-- after so many tape words: 8 where filling finds too few, 31 where scores cannot be ordered, 0 after the last round
abbrev pub finding_answer : Finding → ℕ → Answer
finding_answer Nothing used = in_no_row 0 used
finding_answer (Found bug row pc) used = in_row (outcome.Found bug) row pc used
finding_answer (Failed error row pc) used = in_row (outcome.Failed error) row pc used
finding_answer TapeShort used = in_no_row 8 used
finding_answer ScoresUnordered used = in_no_row 31 used
