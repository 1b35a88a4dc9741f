-- A stepping stone between contracts: a text that was printed.
use Rattle.std.specs.Prelude.{◌≡◌, Result, List, ℕ, ◌≤◌, length}
use Rattle.rows.specs.Rows.{Row}
use Rattle.writing.specs.Written.{written}
use Rattle.lines.specs.Lines.{lines}
use Rattle.search.specs.Entry.{search_answer}
use Rattle.rounds.specs.declared.call.Ended.{Ended}
use Rattle.checks.specs.declared.refusal.Refusal.{Refusal}
use Rattle.report.specs.Reports.{most_printed, told_by}

-- a text at the front of an output that held out before, and how many bytes it has
pub record Printed (text out out' : List ℕ) (count : ℕ) : Type 0 where
  pub size : count ≡ length text
  pub bytes : out' ≡ written text out
  pub room : count ≤ most_printed

-- what is printed of an answer, by the rows
abbrev pub answer_lines : Result Ended Refusal → List Row → List ℕ
answer_lines a rows = lines (search_answer a) (told_by a rows)
