use Rattle.std.proofs.Common.{◌+◌, ◌*◌, get_or}
use Rattle.means.specs.Tallies.{Within}
use Rattle.counting.specs.Cells.{byte_addresses}
use Rattle.tables.specs.Taken.{Taken}
use Rattle.tables.proofs.average.tally_word.Given as goal

abbrev pub invariant-loop-b : goal.invariant-loop-b
invariant-loop-b l =
    record {
      taken : Taken (λ a. get_or l.table a 0) l.initial.t (byte_addresses l.place l.x l.b) l.t;
      small : Within (8 * l.place + l.b) l.t;
    }
