-- A stepping stone between contracts: one row run where it stands.
use Rattle.std.specs.Prelude.{List, ℕ, set}
use Rattle.rows.specs.Rows.{Row}
use Rattle.machine.specs.Runs.{Finished, run_of}
use Rattle.store.specs.Store.{nth_row}
use Rattle.rounds.specs.Rounds.{row_after}

-- the run of row r, `used` tape words being used before it
abbrev pub row_run : ℕ → List ℕ → ℕ → ℕ → List Row → Finished
row_run step tape used r rows = run_of step tape used (nth_row rows r)

-- the rows with row r as its run leaves it
abbrev pub with_row_run : ℕ → List ℕ → ℕ → ℕ → List Row → List Row
with_row_run step tape used r rows = set rows r (row_after (row_run step tape used r rows))
