-- What crosses to C and Rust of the calls that count in a lent table.
use Rattle.std.specs.Prelude.{Result, Ok, Err, cond, List, ◌≡◌, ℕ, ◌+◌, ◌*◌, ◌/◌, ◌≤◌, leb, Float}
use Rattle.answers.specs.Answers.{refused_answer}
use Rattle.answers.specs.declared.answer.Answer.{Answer}
use Rattle.loader.specs.Loading.{Program}
use Rattle.options.specs.Means.{mean_numbered}
use Rattle.tables.specs.Lent.{table_left}
use Rattle.tables.specs.Tables.{increments}
use Rattle.scoring.specs.Entry.{error_number, scores_left, store_rows, store_scores}
use Rattle.scoring.specs.ByTable as scoring
use Rattle.scoring.specs.declared.ScoringError.{ScoringError}
use Rattle.search.specs.ByTable as search
use Rattle.tavvinur.specs.Flat.{Left, left, left_by_search, unknown_mean, options_of}
use Rattle.tavvinur.specs.declared.by_table.Scored.{Scored}
use Rattle.tavvinur.specs.declared.Options.{Options}

abbrev pub scored : ℕ → ℕ → Scored
scored number increments = record { number = number; increments = increments }

-- no increments of a call that does not score
abbrev pub flat_scored : Result ℕ ScoringError → Scored
flat_scored (Ok n) = scored 0 n
flat_scored (Err e) = scored (error_number e) 0

-- the lent scores and the lent table after a call, with its answer
pub record ScoredLeft : Type 0 where
  pub scores : List Float
  pub table : List ℕ
  pub answer : Scored

abbrev pub scored_left : List Float → List ℕ → Scored → ScoredLeft
scored_left scores table answer = record { scores = scores; table = table; answer = answer }

-- a mean above 1 is refused first, and nothing changes
abbrev pub table_score_left : ℕ → ℕ → ℕ → ℕ → List ℕ → List ℕ → List ℕ → List Float → ScoredLeft
table_score_left memory log rows mean words marks table scores = let answer = scoring.table_scoring_answer memory log rows (mean_numbered mean) words marks table scores in
    cond (leb mean 1)
    (scored_left
    (scores_left answer (store_scores memory log rows (mean_numbered mean) words marks) scores)
    (table_left (scoring.table_scoring_checked memory log rows words marks table scores) table)
    (flat_scored answer))
    (scored_left scores table (scored unknown_mean 0))

-- of a call that is not refused: its number is 0, and the increments are at most eight for pc, each register and each memory word of a row
abbrev pub TableAlwaysScored : ℕ → ℕ → ℕ → List ℕ → List ℕ → List ℕ → List Float → Scored → Type 0
TableAlwaysScored memory log rows words marks table scores answer =
    scoring.table_scoring_checked memory log rows words marks table scores ≡ Ok tt
    → (answer ≡ scored 0 (increments (store_rows memory log rows words marks))) × (answer.increments ≤ 8 * (33 + memory / 8) * rows)

-- the lent words, marks and table after a call, with its answer
pub record SearchLeft : Type 0 where
  pub store : Left
  pub table : List ℕ

abbrev pub search_left_with : List ℕ → List ℕ → List ℕ → Answer → SearchLeft
search_left_with words marks table answer = record { store = left words marks answer; table = table }

abbrev pub table_search_left : Options → ℕ → Program → List ℕ → List ℕ → List ℕ → List ℕ → SearchLeft
table_search_left o log p tape words marks table =
    cond (leb o.mean 1)
    (record {
      store = left_by_search (search.table_search_entry (options_of o) log p tape words marks table);
      table = table_left (search.table_search_checked (options_of o) log p words marks table) table;
    })
    (search_left_with words marks table (refused_answer unknown_mean))
