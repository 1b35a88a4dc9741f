-- The search ("The search call" in document 01): filling, running all, choosing the outcome, keeping the rarest, round after round.
use Rattle.std.specs.Prelude.{Bool, true, false, cond, Result, Ok, Err, List, [], ◌∷◌, ◌++◌, map, ℕ, suc, ◌+◌, ◌-◌, ◌%◌, ltb, Float, length, take, drop, replicate}
use Rattle.std.specs.Float.Ieee.{lt}
use Rattle.answers.specs.declared.outcome.Outcome.TheVariants as outcome
use Rattle.answers.specs.declared.outcome.Progress.{Progress}
use Rattle.answers.specs.declared.outcome.Progress.TheVariants.{Running, Ended}
use Rattle.rows.specs.Rows.{Row, set_born}
use Rattle.loader.specs.Loading.{new_executor}
use Rattle.machine.specs.Runs.{Finished, run_of}
use Rattle.store.specs.Store.{nth_row, zero_row}
use Rattle.store.specs.declared.layout.Layout.{Layout}
use Rattle.counting.specs.Counters.{taking}
use Rattle.rarity.specs.Scores.{score, scores_of, are_ordered}
use Rattle.means.specs.declared.MeanType.{MeanType}
use Rattle.answers.specs.declared.finding.Finding.{Finding}
use Rattle.answers.specs.declared.finding.Finding.TheVariants.{Nothing, Found, Failed, TapeShort, ScoresUnordered}
use Rattle.options.specs.declared.RaritySimulationOptions.{RaritySimulationOptions}
use Rattle.rounds.specs.Calls.{Call}
use Rattle.rounds.specs.Copies.{copies_of}
use Rattle.rounds.specs.Selection.{Chosen, rarest}
use Rattle.rounds.specs.Series.{Next, goes_on, over, rounds, search_from}

-- what a round starts from: the rows kept, and how many tape words are used
pub record Start : Type 0 where
  pub kept : List Row
  pub used : ℕ

-- an accepted call zeroes all rows
abbrev pub beginning : Start
beginning = record { kept = []; used = 0 }

-- the whole store between two rounds: the kept rows from row 0 up, the others zero
abbrev pub stored : Layout → List Row → List Row
stored s kept = kept ++ replicate (s.rows - length kept) (zero_row s)

-- ---- filling (create_missing_executors)
abbrev pub missing : Call → Start → ℕ
missing c s = c.store.rows - length s.kept

abbrev pub copies : Call → Start → ℕ
copies c s = copies_of c.store.rows (length s.kept) c.options.copy_init_ratio

-- 8: fewer tape words left than copies to make
unfoldable pub tape_short : Call → Start → Bool
tape_short c s = ltb (length c.tape - s.used) (copies c s)

-- each copy takes one tape word modulo the number kept
abbrev pub parent : List Row → ℕ → Row
parent kept word = nth_row kept (word % length kept)

-- created anew in round k
abbrev pub new_row : Call → ℕ → Row
new_row c k = set_born k (new_executor c.image c.store.words c.store.marks)

-- copies come first, then new executors
unfoldable pub filled : Call → ℕ → Start → List Row
filled c k s =
    s.kept
    ++ (map (parent s.kept) (take (copies c s) (drop s.used c.tape))
    ++ replicate (missing c s - copies c s) (new_row c k))

-- ---- running every executor in row order (run_all), each from where the last one left the tape
-- 22: not an error to the search
abbrev pub is_running : Progress → Bool
is_running Running = true
is_running (Ended o) = false

abbrev pub running_flag : Finished → Bool
running_flag x = is_running x.ran.progress

unfoldable pub run_all : ℕ → List ℕ → ℕ → List Row → List Finished
run_all step tape used [] = []
run_all step tape used (r ∷ rows) = let x = run_of step tape used r in x ∷ run_all step tape x.ran.used rows

unfoldable pub used_after : ℕ → List Finished → ℕ
used_after used [] = used
used_after used (x ∷ runs) = used_after x.ran.used runs

abbrev pub row_after : Finished → Row
row_after x = x.row

-- ---- choosing the outcome: first bug in row order, else first error other than 22, else go on
-- what row i met, if that is a bug
abbrev pub bug_at : Progress → ℕ → ℕ → Finding → Finding
bug_at Running i pc other = other
bug_at (Ended outcome.Exited) i pc other = other
bug_at (Ended (outcome.Found bug)) i pc other = Found bug i pc
bug_at (Ended (outcome.Failed error)) i pc other = other

-- what row i met, if that is an error
abbrev pub error_at : Progress → ℕ → ℕ → Finding → Finding
error_at Running i pc other = other
error_at (Ended outcome.Exited) i pc other = other
error_at (Ended (outcome.Found bug)) i pc other = other
error_at (Ended (outcome.Failed error)) i pc other = Failed error i pc

-- the first, of the rows from i on
unfoldable pub first_bug : ℕ → List Finished → Finding → Finding
first_bug i [] other = other
first_bug i (x ∷ runs) other = bug_at x.ran.progress i x.ran.pc (first_bug (suc i) runs other)

unfoldable pub first_error : ℕ → List Finished → Finding → Finding
first_error i [] other = other
first_error i (x ∷ runs) other = error_at x.ran.progress i x.ran.pc (first_error (suc i) runs other)

abbrev pub outcome_of : List Finished → Finding
outcome_of runs = first_bug 0 runs (first_error 0 runs Nothing)

-- ---- keeping the rarest (filter_successfully_exited, select_rarest)
-- executors that exited are removed
abbrev pub still_running : List Finished → List Row
still_running runs = taking (map running_flag runs) (map row_after runs)

-- a state and its score
pub record Ranked : Type 0 where
  pub state : Row
  pub rank : Float

abbrev pub state_of : Ranked → Row
state_of x = x.state

abbrev pub ranked_among : MeanType → List Row → Row → Ranked
ranked_among m rows r = record { state = r; rank = score m rows r }

abbrev pub lower : Ranked → Ranked → Bool
lower x y = lt x.rank y.rank

unfoldable pub chosen_of : RaritySimulationOptions → List Row → Chosen Ranked
chosen_of o rows = rarest lower o.selection (map (ranked_among o.mean rows) rows)

-- ---- a round
-- what is answered and left
pub record Searched : Type 0 where
  pub finding : Finding
  pub rows : List Row
  pub used : ℕ

-- the search goes on, or it ends with a finding, the rows of the store and the tape words used
abbrev pub After : Type 0
After = Next Start Searched

abbrev pub ends : Finding → List Row → ℕ → After
ends f rows used = over (record { finding = f; rows = rows; used = used })

-- with a bug or error the rows stay as the runs left them
abbrev pub ends_or : Finding → List Row → ℕ → After → After
ends_or Nothing rows used next = next
ends_or (Found bug i pc) rows used next = ends (Found bug i pc) rows used
ends_or (Failed error i pc) rows used next = ends (Failed error i pc) rows used
ends_or TapeShort rows used next = ends TapeShort rows used
ends_or ScoresUnordered rows used next = ends ScoresUnordered rows used

-- 31, then what is kept
unfoldable pub selected : RaritySimulationOptions → List Row → ℕ → List Row → After
selected o rows used running =
    cond (are_ordered (scores_of o.mean running))
    (goes_on (record { kept = map state_of (chosen_of o running).kept; used = used }))
    (ends ScoresUnordered rows used)

pub record Round : Type 0 where
  -- the rows that it runs
  pub full : List Row
  pub runs : List Finished
  pub after : After

-- on filled rows, `first` tape words being used
unfoldable pub ran_on : RaritySimulationOptions → List ℕ → ℕ → List Row → Round
ran_on o tape first full =
    let runs = run_all o.step_size tape first full in
    let rows = map row_after runs in
    let used = used_after first runs in
    record { full = full; runs = runs; after = ends_or (outcome_of runs) rows used (selected o rows used (still_running runs)) }

-- round k from a start, counted from 0
unfoldable pub round_of : Call → ℕ → Start → Round
round_of c k s = ran_on c.options c.tape (s.used + copies c s) (filled c k s)

-- ---- the rounds of a call
abbrev pub round_after : Round → After
round_after r = r.after

-- what a search leaves that ends between two rounds
abbrev pub between : Call → Finding → Start → Searched
between c f s = record { finding = f; rows = stored c.store s.kept; used = s.used }

-- 8 ends the search where it is met: that round is none
unfoldable pub round_made : Call → ℕ → Start → Result Round Searched
round_made c k s = cond (tape_short c s) (Err (between c TapeShort s)) (Ok (round_of c k s))

-- the list of a call's rounds
abbrev pub rounds_of : Call → List Round
rounds_of c = rounds round_after (round_made c) c.options.iterations 0 beginning

-- what a call answers and leaves; after the last round the answer is 0
abbrev pub searched : Call → Searched
searched c = search_from round_after (round_made c) (between c Nothing) c.options.iterations 0 beginning
