use Rattle.std.proofs.Common.{refl, ◌+◌, arith}
use Rattle.counting.proofs.Places.{base_most}
use Rattle.tables.specs.Changes.{changed}
use Rattle.tables.proofs.Words.{bytes_none, byte_room, byte_changed}
use Rattle.tables.proofs.count.count_word.Goals as goal

pub loop-b-init : goal.loop-b-init
unfolding changed
loop-b-init c = rw bytes_none

pub offset_bounds-table-address_of : goal.offset_bounds-table-address_of
offset_bounds-table-address_of c = omega (arith, base_most c.args.place, c.address_of.ensures)

pub bounds-table-address_of : goal.bounds-table-address_of
bounds-table-address_of c = (byte_room _ _ _ c.loop-b-test.true c.address_of.ensures c.requires.room c.loop-b.invariant).0

pub overflow_add-table : goal.overflow_add-table
overflow_add-table c = omega (arith, (byte_room _ _ _ c.loop-b-test.true c.address_of.ensures c.requires.room c.loop-b.invariant).1)

pub bounds-table-address_of-in-loop-b : goal.bounds-table-address_of-in-loop-b
bounds-table-address_of-in-loop-b c = (byte_room _ _ _ c.loop-b-test.true c.address_of.ensures c.requires.room c.loop-b.invariant).0

pub loop-b-preserved : goal.loop-b-preserved
loop-b-preserved c = byte_changed _ _ _ c.loop-b-test.true c.address_of.ensures (λ n. n + 1) _ c.loop-b.invariant refl
