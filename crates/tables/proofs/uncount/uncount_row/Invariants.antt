use Rattle.std.proofs.Common.{◌≡◌, ◌-◌, length}
use Rattle.rows.specs.Lent.{seen}
use Rattle.tables.specs.Changes.{wiped}
use Rattle.tables.proofs.Walks.{At, before}
use Rattle.tables.proofs.uncount.uncount_row.Given as goal

abbrev pub invariant-loop-slot : goal.invariant-loop-slot
invariant-loop-slot l =
    record {
      at : At (seen l.row) l.slot;
      table : l.table ≡ wiped (before (seen l.row) l.slot) l.fn.table;
    }

abbrev pub decreases-loop-slot : goal.decreases-loop-slot
decreases-loop-slot l = length l.row.marks.now - l.slot
