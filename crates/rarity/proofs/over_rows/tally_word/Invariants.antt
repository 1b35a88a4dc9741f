use Rattle.std.proofs.Common.{◌+◌, ◌*◌}
use Rattle.means.specs.Tallies.{Within}
use Rattle.counting.specs.Cells.{byte_addresses}
use Rattle.counting.specs.Counters.{counter_in}
use Rattle.counting.specs.Lent.{rows_taking}
use Rattle.tables.specs.Taken.{Taken}
use Rattle.rarity.proofs.over_rows.tally_word.Given as goal

abbrev pub invariant-loop-b : goal.invariant-loop-b
invariant-loop-b l =
    record {
      taken : Taken (counter_in (rows_taking l.rows)) l.initial.t (byte_addresses l.place l.x l.b) l.t;
      small : Within (8 * l.place + l.b) l.t;
    }
