-- A stepping stone between contracts: what running all rows needs, and its answer from the definitions of rounds/specs.
use Rattle.std.specs.Prelude.{List, ℕ, ◌+◌, ◌<◌, ◌^◌, length}
use Rattle.rows.specs.Rows.{Row, limit_of}
use Rattle.machine.specs.Runs.{Finished}
use Rattle.store.specs.Store.{nth_row}
use Rattle.rounds.specs.Rounds.{outcome_of, used_after}
use Rattle.rounds.specs.declared.call.Ended.{Ended}

-- no row's limit overflows when a step is added
abbrev pub LimitsAllow : ℕ → List Row → Type 0
LimitsAllow step rows = (r : ℕ) → r < length rows → limit_of (nth_row rows r) + step < 2 ^ 64

-- from runs that started with so many tape words used
abbrev pub all_ran : ℕ → List Finished → Ended
all_ran used runs = record { finding = outcome_of runs; used = used_after used runs }
