use Rattle.std.proofs.Common.{◌≡◌, ◌+◌, ◌*◌, ◌-◌, map, get_or, length}
use Rattle.rows.specs.Lent.{seen}
use Rattle.means.specs.Tallies.{tally, Within}
use Rattle.tables.proofs.Walks.{At, before}
use Rattle.tables.proofs.average.tally_row.Given as goal

abbrev pub invariant-loop-slot : goal.invariant-loop-slot
invariant-loop-slot l =
    record {
      at : At (seen l.row) l.slot;
      counted : l.t ≡ tally (map (λ a. get_or l.table a 0) (before (seen l.row) l.slot));
      small : Within (8 * (l.slot + 1)) l.t;
    }

abbrev pub decreases-loop-slot : goal.decreases-loop-slot
decreases-loop-slot l = length l.row.marks.now - l.slot
