-- The search entry: what it refuses, what it answers, and the store that it leaves.
use Rattle.std.specs.Prelude.{Result, Ok, Err, List, [], ◌∷◌, ◌++◌, ◌≡◌, ℕ, ◌/◌, length}
use Rattle.answers.specs.Answers.{refused_answer}
use Rattle.answers.specs.declared.answer.Answer.{Answer}
use Rattle.checks.specs.Refusals.{refusal_number, is_memory_size, is_amount_of_states, is_copy_ratio, is_log_size, are_lengths}
use Rattle.checks.specs.Segments.{segment_tests}
use Rattle.checks.specs.Tests.{Test, test, checked_by}
use Rattle.checks.specs.declared.refusal.Refusal.{Refusal}
use Rattle.checks.specs.declared.refusal.Refusal.TheVariants.{MemorySize, AmountOfStates, CopyRatio, LogSize, LentLengths}
use Rattle.loader.specs.Loading.{Program}
use Rattle.store.specs.Store.{words_of, marks_of}
use Rattle.rounds.specs.Calls.{layout_of, call}
use Rattle.rounds.specs.Demand.{Demand}
use Rattle.rounds.specs.Ages.{Ages}
use Rattle.answers.specs.Findings.{finding_answer}
use Rattle.rounds.specs.Rounds.{Searched, searched}
use Rattle.rounds.specs.declared.call.Ended.{Ended}
use Rattle.options.specs.declared.RaritySimulationOptions.{RaritySimulationOptions}

-- 1 to 5, of a store of so many words and marks
abbrev pub option_tests : RaritySimulationOptions → ℕ → ℕ → ℕ → List Test
option_tests o log words marks =
    test (is_memory_size o.memory_size) MemorySize
    ∷ test (is_amount_of_states o.amount_of_states) AmountOfStates
    ∷ test (is_copy_ratio o.copy_init_ratio) CopyRatio
    ∷ test (is_log_size log) LogSize
    ∷ test (are_lengths o.amount_of_states (o.memory_size / 8) log words marks) LentLengths
    ∷ []

-- then 6 and 7
abbrev pub call_tests : RaritySimulationOptions → ℕ → Program → ℕ → ℕ → List Test
call_tests o log p words marks = option_tests o log words marks ++ segment_tests (o.memory_size / 8) p

unfoldable pub search_checked : RaritySimulationOptions → ℕ → Program → List ℕ → List ℕ → Result (Unit {0}) Refusal
search_checked o log p words marks = checked_by (call_tests o log p (length words) (length marks))

-- the store and the answer after a call
pub record Left : Type 0 where
  pub words : List ℕ
  pub marks : List ℕ
  pub answer : Result Ended Refusal

abbrev pub left : List ℕ → List ℕ → Result Ended Refusal → Left
left words marks a = record { words = words; marks = marks; answer = a }

-- a search leaves its rows
abbrev pub left_by : Searched → Left
left_by x = left (words_of x.rows) (marks_of x.rows) (Ok (record { finding = x.finding; used = x.used }))

-- a refused call leaves everything as found; an accepted one zeroes all rows and runs the rounds
unfoldable pub search_left : Result (Unit {0}) Refusal → RaritySimulationOptions → ℕ → Program → List ℕ → List ℕ → List ℕ → Left
search_left (Ok t) o log p tape words marks = left_by (searched (call o (layout_of o log) p tape))
search_left (Err f) o log p tape words marks = left words marks (Err f)

abbrev pub search_entry : RaritySimulationOptions → ℕ → Program → List ℕ → List ℕ → List ℕ → Left
search_entry o log p tape words marks = search_left (search_checked o log p words marks) o log p tape words marks

-- demand 3 of a call that is not refused
abbrev pub Demanded : RaritySimulationOptions → ℕ → Program → List ℕ → List ℕ → List ℕ → Type 0
Demanded o log p tape words marks = search_checked o log p words marks ≡ Ok tt → Demand (call o (layout_of o log) p tape)

-- and its rows' word `born` is true
abbrev pub AgesTold : RaritySimulationOptions → ℕ → Program → List ℕ → List ℕ → List ℕ → Type 0
AgesTold o log p tape words marks = search_checked o log p words marks ≡ Ok tt → Ages (call o (layout_of o log) p tape)

-- the answer in numbers
abbrev pub search_answer : Result Ended Refusal → Answer
search_answer (Ok e) = finding_answer e.finding e.used
search_answer (Err f) = refused_answer (refusal_number f)
