-- A stepping stone between contracts: how a search ends, and that this and the rows of a store say what the search comes to.
use Rattle.std.specs.Prelude.{Result, Ok, Err, List, ◌≡◌}
use Rattle.rows.specs.Rows.{Row}
use Rattle.answers.specs.declared.finding.Finding.TheVariants.{Nothing}
use Rattle.rounds.specs.Rounds.{Searched}
use Rattle.rounds.specs.declared.call.Start.{Start as StartByValue}
use Rattle.rounds.specs.declared.call.Ended.{Ended}

-- rounds that all went on end with nothing found
abbrev pub ended_of : Result StartByValue Ended → Ended
ended_of (Ok start) = record { finding = Nothing; used = start.used }
ended_of (Err ended) = ended

abbrev pub searched_as : Ended → List Row → Searched → Type 0
searched_as e rows x = (e ≡ record { finding = x.finding; used = x.used }) × (rows ≡ x.rows)
