use Rattle.std.proofs.Common.{◌≡◌, ◌-◌, length}
use Rattle.rows.specs.Lent.{seen}
use Rattle.marked.specs.Gaps.{GapIn}
use Rattle.tables.specs.Changes.{added}
use Rattle.tables.proofs.Walks.{At, before}
use Rattle.tables.proofs.count.count_row.Given as goal

abbrev pub invariant-loop-slot : goal.invariant-loop-slot
invariant-loop-slot l =
    record {
      at : At (seen l.row) l.slot;
      table : l.table ≡ added (before (seen l.row) l.slot) l.fn.table;
      increments : l.increments ≡ length (before (seen l.row) l.slot);
      gap : GapIn l.row.marks.now l.gap;
    }

abbrev pub decreases-loop-slot : goal.decreases-loop-slot
decreases-loop-slot l = length l.row.marks.now - l.slot
