-- The search entry that counts in a lent table: what it refuses, and what it leaves. Its rounds are those of the other entry.
use Rattle.std.specs.Prelude.{Result, Ok, List, [], ◌∷◌, ◌++◌, ◌≡◌, ℕ, ◌/◌, length}
use Rattle.checks.specs.Segments.{segment_tests}
use Rattle.checks.specs.Tests.{Test, checked_by}
use Rattle.checks.specs.declared.refusal.Refusal.{Refusal}
use Rattle.loader.specs.Loading.{Program}
use Rattle.options.specs.declared.RaritySimulationOptions.{RaritySimulationOptions}
use Rattle.rounds.specs.Calls.{layout_of, call}
use Rattle.rounds.specs.Demand.{Demand}
use Rattle.rounds.specs.Ages.{Ages}
use Rattle.tables.specs.Lent.{table_test}
use Rattle.search.specs.Entry.{option_tests, Left, search_left}

-- 1 to 5, then 32, of a store of so many words and marks and a table of so many counters
abbrev pub table_option_tests : RaritySimulationOptions → ℕ → ℕ → ℕ → ℕ → List Test
table_option_tests o log words marks table = option_tests o log words marks ++ (table_test (o.memory_size / 8) table ∷ [])

-- then 6 and 7
abbrev pub table_call_tests : RaritySimulationOptions → ℕ → Program → ℕ → ℕ → ℕ → List Test
table_call_tests o log p words marks table = table_option_tests o log words marks table ++ segment_tests (o.memory_size / 8) p

unfoldable pub table_search_checked : RaritySimulationOptions → ℕ → Program → List ℕ → List ℕ → List ℕ → Result (Unit {0}) Refusal
table_search_checked o log p words marks table = checked_by (table_call_tests o log p (length words) (length marks) (length table))

-- store and answer after a call; the table is `table_left`
abbrev pub table_search_entry : RaritySimulationOptions → ℕ → Program → List ℕ → List ℕ → List ℕ → List ℕ → Left
table_search_entry o log p tape words marks table = search_left (table_search_checked o log p words marks table) o log p tape words marks

-- demand 3 of a call that is not refused
abbrev pub TableDemanded : RaritySimulationOptions → ℕ → Program → List ℕ → List ℕ → List ℕ → List ℕ → Type 0
TableDemanded o log p tape words marks table = table_search_checked o log p words marks table ≡ Ok tt → Demand (call o (layout_of o log) p tape)

-- and its rows' word `born` is true
abbrev pub TableAgesTold : RaritySimulationOptions → ℕ → Program → List ℕ → List ℕ → List ℕ → List ℕ → Type 0
TableAgesTold o log p tape words marks table = table_search_checked o log p words marks table ≡ Ok tt → Ages (call o (layout_of o log) p tape)
