use Rattle.std.proofs.Common.{refl, arith, length}
use Rattle.counting.proofs.Places.{base_most}
use Rattle.tables.specs.Changes.{changed}
use Rattle.tables.proofs.Changes.{changed_length}
use Rattle.tables.proofs.Words.{bytes_none, byte_inside, byte_changed}
use Rattle.tables.proofs.uncount.uncount_word.Goals as goal

pub loop-b-init : goal.loop-b-init
unfolding changed
loop-b-init c = rw bytes_none

pub offset_bounds-table-address_of : goal.offset_bounds-table-address_of
offset_bounds-table-address_of c = omega (arith, base_most c.args.place, c.address_of.ensures)

pub bounds-table-address_of : goal.bounds-table-address_of
bounds-table-address_of c =
    rw (c.loop-b.invariant, changed_length) (byte_inside _ _ _ c.loop-b-test.true c.address_of.ensures (length c.args.table.now) c.requires.inside)

pub loop-b-preserved : goal.loop-b-preserved
loop-b-preserved c = byte_changed _ _ _ c.loop-b-test.true c.address_of.ensures (λ n. 0) _ c.loop-b.invariant refl
