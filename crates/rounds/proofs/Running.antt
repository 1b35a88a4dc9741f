-- Running all rows: as many runs as rows, what each makes of its row, and a proper row stays proper; those still running are some of them.
use Rattle.std.proofs.Common.{Bool, true, false, List, [], ◌∷◌, map, ◌≡◌, refl, ap, ◌∙◌, ℕ, suc, ◌≤◌, arith, length}
use Rattle.std.proofs.Math.ListN.{length-map}
use Rattle.answers.specs.declared.outcome.Progress.{Progress}
use Rattle.answers.specs.declared.outcome.Progress.TheVariants.{Running, Ended}
use Rattle.rows.specs.Rows.{Row}
use Rattle.machine.specs.Runs.{Finished, run_of}
use Rattle.invariants.proofs.Kept.{run_words, run_marks}
use Rattle.invariants.proofs.ZeroMark.{run_zero_mark}
use Rattle.store.specs.declared.layout.Layout.{Layout}
use Rattle.counting.specs.Counters.{taking}
use Rattle.counting.proofs.Members.{taking_length}
use Rattle.rounds.specs.Demand.{All, nil, cons}
use Rattle.rounds.specs.Rounds.{run_all, row_after, is_running, running_flag, still_running}
use Rattle.rounds.proofs.Lists.{all_map}
use Rattle.rounds.proofs.Proper.{Proper}

pub run_all_length : (step : ℕ) (tape : List ℕ) (used : ℕ) (rows : List Row) → length (run_all step tape used rows) ≡ length rows
unfolding run_all
run_all_length step tape used [] = refl
run_all_length step tape used (r ∷ rows) = ap suc (run_all_length step tape (run_of step tape used r).ran.used rows)

pub run_proper : (s : Layout) (step : ℕ) (tape : List ℕ) (used : ℕ) (r : Row) → Proper s r → Proper s (run_of step tape used r).row
run_proper s step tape used r h =
    record {
      words = run_words step tape used r ∙ h.words;
      marks = run_marks step tape used r ∙ h.marks;
      zero_mark = run_zero_mark step tape used r ∙ h.zero_mark;
    }

-- what a run makes of one row, runs make of all
module _ {P : Row → Type 0} (step : ℕ) (tape : List ℕ) where
  pub run_all_each : {Q : Finished → Type 0} → ((used : ℕ) (r : Row) → P r → Q (run_of step tape used r))
      → (used : ℕ) {rows : List Row} → All P rows → All Q (run_all step tape used rows)
  unfolding run_all
  run_all_each each used nil = nil
  run_all_each each used (cons {x = r} h hs) = cons (each used r h) (run_all_each each (run_of step tape used r).ran.used hs)

  pub run_all_rows : {Q : Row → Type 0} → ((used : ℕ) (r : Row) → P r → Q (run_of step tape used r).row)
      → (used : ℕ) {rows : List Row} → All P rows → All Q (map row_after (run_all step tape used rows))
  run_all_rows {Q} each used ps = all_map row_after (run_all_each {Q = λ (x : Finished). Q x.row} each used ps)

-- ---- the rows that take part
all_taking : {P : Row → Type 0} (flags : List Bool) {rows : List Row} → All P rows → All P (taking flags rows)
unfolding taking
all_taking [] ps = nil
all_taking (f ∷ fs) nil = nil
all_taking (true ∷ fs) (cons p ps) = cons p (all_taking fs ps)
all_taking (false ∷ fs) (cons p ps) = all_taking fs ps

pub still_running_length : (runs : List Finished) → length (still_running runs) ≤ length runs
still_running_length runs =
    let n = taking_length (map running_flag runs) (map row_after runs) in
    let m = length-map runs row_after in
    omega arith

pub still_running_all : {P : Row → Type 0} (runs : List Finished) → All P (map row_after runs) → All P (still_running runs)
still_running_all runs ps = all_taking (map running_flag runs) ps

-- what holds of every run that answers 22 holds of the rows still running
pub still_running_each : {Q : Row → Type 0} (runs : List Finished) → All (λ x. x.ran.progress ≡ Running → Q x.row) runs → All Q (still_running runs)
unfolding taking
still_running_each [] nil = nil
still_running_each {Q = Q} (x ∷ runs) (cons p ps) = by x.ran.progress p (still_running_each runs ps)
  where
    by : (q : Progress) → (q ≡ Running → Q x.row) → All Q (still_running runs) → All Q (taking (is_running q ∷ map running_flag runs) (x.row ∷ map row_after runs))
    by Running p rest = cons (p refl) rest
    by (Ended o) p rest = rest
