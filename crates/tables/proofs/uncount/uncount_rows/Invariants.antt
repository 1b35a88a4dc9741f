use Rattle.std.proofs.Common.{◌≡◌, length}
use Rattle.counting.specs.Lent.{rows_taking}
use Rattle.tables.specs.Changes.{wiped, Inside}
use Rattle.tables.specs.Tables.{addresses_in}
use Rattle.tables.proofs.Rows.{left_from}
use Rattle.tables.proofs.uncount.uncount_rows.Given as goal

abbrev pub invariant-loop-r : goal.invariant-loop-r
invariant-loop-r l =
    record {
      inside : Inside (left_from l.r l.rows) (length l.table);
      table : wiped (left_from l.r l.rows) l.table ≡ wiped (addresses_in (rows_taking l.rows)) l.fn.table;
    }
