use Rattle.std.proofs.Common.{refl, arith, get_or}
use Rattle.counting.proofs.Places.{base_most}
use Rattle.tables.proofs.Words.{byte_counter, counter_inside}
use Rattle.tables.proofs.Taking.{bytes_taken_none, bytes_taken, within_looser, within_more}
use Rattle.tables.proofs.average.tally_word.Goals as goal

pub loop-b-init : goal.loop-b-init
loop-b-init c = record { taken = bytes_taken_none _ _; small = within_looser c.requires.small (omega arith) }

pub offset_bounds-table-address_of : goal.offset_bounds-table-address_of
offset_bounds-table-address_of c = omega (arith, base_most c.args.place, c.address_of.ensures)

pub bounds-table-address_of : goal.bounds-table-address_of
bounds-table-address_of c =
    counter_inside _ _ (byte_counter _ _ _ c.loop-b-test.true c.address_of.ensures (λ a. get_or c.args.table.now a 0) c.requires.counters).0

pub add-t-requires-clause-counter_bound : goal.add-t-requires-clause-counter_bound
add-t-requires-clause-counter_bound c =
    (byte_counter _ _ _ c.loop-b-test.true c.address_of.ensures (λ a. get_or c.args.table.now a 0) c.requires.counters).1

pub loop-b-preserved : goal.loop-b-preserved
loop-b-preserved c =
    let small = (byte_counter _ _ _ c.loop-b-test.true c.address_of.ensures (λ a. get_or c.args.table.now a 0) c.requires.counters).1 in
    record {
      taken = bytes_taken _ _ _ c.loop-b.invariant.taken c.address_of.ensures refl c.add-t.ensures;
      small = within_more c.loop-b.invariant.small small c.add-t.ensures (omega arith);
    }
