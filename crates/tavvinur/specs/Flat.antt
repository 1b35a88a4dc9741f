-- What crosses to C and Rust: numbers and flat structs, each equal to what the entries' definitions say.
use Rattle.std.specs.Prelude.{Result, Ok, cond, List, ◌≡◌, ℕ, leb, Float}
use Rattle.answers.specs.Answers.{refused_answer}
use Rattle.answers.specs.declared.answer.Answer.{Answer}
use Rattle.executor.specs.Entries as run
use Rattle.rows.specs.Rows.{Row, row}
use Rattle.loader.specs.Loading.{Program}
use Rattle.options.specs.Means.{mean_number, mean_numbered}
use Rattle.options.specs.declared.RaritySimulationOptions.{RaritySimulationOptions}
use Rattle.scoring.specs.Entry as scoring
use Rattle.scoring.specs.declared.ScoringError.{ScoringError}
use Rattle.search.specs.Entry as search
use Rattle.tavvinur.specs.declared.Options.{Options}

-- a number of a mean above 1 is refused
abbrev pub unknown_mean : ℕ
unknown_mean = 53

abbrev pub options_of : Options → RaritySimulationOptions
options_of o =
    record {
      memory_size = o.memory_size;
      amount_of_states = o.amount_of_states;
      step_size = o.step_size;
      selection = o.selection;
      iterations = o.iterations;
      copy_init_ratio = o.copy_init_ratio;
      mean = mean_numbered o.mean;
    }

-- the options as they cross
abbrev pub flat_of : RaritySimulationOptions → Options
flat_of o =
    record {
      memory_size = o.memory_size;
      amount_of_states = o.amount_of_states;
      step_size = o.step_size;
      selection = o.selection;
      iterations = o.iterations;
      mean = mean_number o.mean;
      copy_init_ratio = o.copy_init_ratio;
    }

-- the lent words and marks after a call, with its answer
pub record Left : Type 0 where
  pub words : List ℕ
  pub marks : List ℕ
  pub answer : Answer

abbrev pub left : List ℕ → List ℕ → Answer → Left
left words marks a = record { words = words; marks = marks; answer = a }

abbrev pub left_by_run : run.Answered → Left
left_by_run x = left x.row.words x.row.marks (run.run_answer x.answer)

abbrev pub left_by_search : search.Left → Left
left_by_search x = left x.words x.marks (search.search_answer x.answer)

-- the row after a call for a new executor
abbrev pub creation_left : ℕ → ℕ → Program → Row → Row
creation_left memory log p r = run.created_row (run.creation_checked memory log p r) p r

abbrev pub run_left : ℕ → ℕ → ℕ → List ℕ → List ℕ → List ℕ → Left
run_left memory log step tape words marks = left_by_run (run.run_entry memory log step tape (row words marks))

-- a mean above 1 is refused first, and nothing changes
abbrev pub search_left : Options → ℕ → Program → List ℕ → List ℕ → List ℕ → Left
search_left o log p tape words marks =
    cond (leb o.mean 1) (left_by_search (search.search_entry (options_of o) log p tape words marks)) (left words marks (refused_answer unknown_mean))

-- the lent scores after a call, with its number
pub record Scores : Type 0 where
  pub scores : List Float
  pub number : ℕ

abbrev pub scores_with : List Float → ℕ → Scores
scores_with scores number = record { scores = scores; number = number }

abbrev pub scores_by : Result (Unit {0}) ScoringError → List Float → List Float → Scores
scores_by a computed lent = scores_with (scoring.scores_left a computed lent) (scoring.scoring_number a)

abbrev pub score_left : ℕ → ℕ → ℕ → ℕ → List ℕ → List ℕ → List Float → Scores
score_left memory log rows mean words marks scores = let computed = scoring.store_scores memory log rows (mean_numbered mean) words marks in
    cond (leb mean 1)
    (scores_by (scoring.scoring_answer (scoring.scoring_checked memory log rows words marks scores) computed) computed scores)
    (scores_with scores unknown_mean)

-- of a call that is not refused: its number is 0, and 31 is never given
abbrev pub AlwaysScored : ℕ → ℕ → ℕ → List ℕ → List ℕ → List Float → ℕ → Type 0
AlwaysScored memory log rows words marks scores number = scoring.scoring_checked memory log rows words marks scores ≡ Ok tt → number ≡ 0
