-- What a round hands on: the rows that it keeps are some of those that its runs leave.
use Rattle.std.proofs.Common.{List, map, ◌≡◌, ℕ, ◌+◌}
use Rattle.rows.specs.Rows.{Row}
use Rattle.machine.specs.Runs.{run_of}
use Rattle.rounds.specs.Calls.{Call}
use Rattle.rounds.specs.Demand.{All}
use Rattle.rounds.specs.Rounds.{Start, copies, new_row, used_after, row_after, outcome_of, still_running, state_of, chosen_of, ran_on, round_of}
use Rattle.rounds.specs.Series.{goes_on}
use Rattle.rounds.proofs.Filling.{filled_all}
use Rattle.rounds.proofs.Keeping.{round_kept, each_once}
use Rattle.rounds.proofs.Lists.{all_permuted, all_left}
use Rattle.rounds.proofs.Running.{run_all_rows, still_running_all}

module _ (c : Call) (k : ℕ) (s : Start) where
  abbrev pub running : List Row
  running = still_running (round_of c k s).runs

  -- what a run makes of the rows kept before and of a new one holds of the rows still running
  module _ {P Q : Row → Type 0} (each : (used : ℕ) (r : Row) → P r → Q (run_of c.options.step_size c.tape used r).row)
      (kept : All P s.kept) (new : P (new_row c k)) where
    pub running_all : All Q running
    unfolding round_of ran_on
    running_all =
        still_running_all (round_of c k s).runs
        (run_all_rows c.options.step_size c.tape each (s.used + copies c s) (filled_all c k s kept new))

  module _ (next : Start) (e : (round_of c k s).after ≡ goes_on next) where
    pub kept_chosen : next.kept ≡ map state_of (chosen_of c.options running).kept
    unfolding round_of ran_on
    kept_chosen =
        let runs = (round_of c k s).runs in
        round_kept c (outcome_of runs) (map row_after runs) (used_after (s.used + copies c s) runs) running next e

    -- and of the rows kept
    pub kept_all : {Q : Row → Type 0} → All Q running → All Q next.kept
    kept_all h =
        let chosen = chosen_of c.options running in
        rw kept_chosen (all_left (map state_of chosen.kept) (map state_of chosen.passed) (all_permuted (each_once c running) h))
