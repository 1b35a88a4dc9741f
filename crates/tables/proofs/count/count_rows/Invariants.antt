use Rattle.std.proofs.Common.{◌≡◌, ◌+◌, length}
use Rattle.store.specs.Lent.{rows_seen}
use Rattle.counting.specs.Lent.{rows_taking}
use Rattle.tables.specs.Changes.{added, Room}
use Rattle.tables.specs.Gaps.{GapEach}
use Rattle.tables.specs.Tables.{increments, addresses_in}
use Rattle.tables.proofs.Rows.{left_from}
use Rattle.tables.proofs.count.count_rows.Given as goal

abbrev pub invariant-loop-r : goal.invariant-loop-r
invariant-loop-r l =
    record {
      room : Room l.table (left_from l.r l.rows);
      table : added (left_from l.r l.rows) l.table ≡ added (addresses_in (rows_taking l.rows)) l.fn.table;
      increments : l.increments + length (left_from l.r l.rows) ≡ increments (rows_taking l.rows);
      many : length l.gaps ≡ length l.fn.gaps;
      gaps : GapEach (rows_seen l.rows.store) l.gaps;
    }
