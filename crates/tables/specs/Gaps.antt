-- A stepping stone between contracts: a gap for each row of a store, noted while the rows are counted.
use Rattle.std.specs.Prelude.{List, ℕ, get_or}
use Rattle.rows.specs.Rows.{Row}
use Rattle.store.specs.Store.{nth_row}
use Rattle.marked.specs.declared.gap.Gap.{Gap}
use Rattle.marked.specs.Gaps.{no_gap, GapIn}

pub record GapEach (rows : List Row) (gaps : List Gap) : Type 0 where
  pub each : (r : ℕ) → GapIn (nth_row rows r).marks (get_or gaps r no_gap)
