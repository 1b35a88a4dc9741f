use Rattle.std.proofs.Common.{suc, ◌+◌, arith}
use Rattle.rows.specs.Lent.{seen}
use Rattle.marked.proofs.Chosen.{longer_gap}
use Rattle.counting.proofs.Bounds.{length_most}
use Rattle.tables.proofs.Walks.{at_next}
use Rattle.tables.proofs.Turns.{pc_room, pc_changed, pc_counted, slot_room, slot_changed, slot_counted}
use Rattle.tables.proofs.count.count_row.Goals as goal

pub count_word-requires-clause-room : goal.count_word-requires-clause-room
count_word-requires-clause-room c = pc_room (seen c.args.row) c.requires.room

pub loop-slot-init : goal.loop-slot-init
loop-slot-init c =
    let r = seen c.args.row in
    let m = c.next_marked-slot.ensures in
    record { at = at_next r m; table = pc_changed r m (λ n. n + 1) _ c.count_word.ensures; increments = pc_counted r m; gap = m.unmarked }

pub count_word-requires-in-loop-slot-clause-room : goal.count_word-requires-in-loop-slot-clause-room
count_word-requires-in-loop-slot-clause-room c =
    let h = c.loop-slot.invariant in
    slot_room h.at c.loop-slot-test.true c.requires.room h.table

pub overflow_add-increments : goal.overflow_add-increments
overflow_add-increments c =
    let h = c.loop-slot.invariant in
    omega (arith, h.increments, h.at.within, c.requires.few, length_most (suc c.loop-slot.slot) (seen c.args.row))

pub loop-slot-preserved : goal.loop-slot-preserved
loop-slot-preserved c =
    let r = seen c.args.row in
    let h = c.loop-slot.invariant in
    let l = c.loop-slot-test.true in
    let m = c.next_marked-next.ensures in
    record {
      at = at_next r m;
      table = slot_changed h.at l m (λ n. n + 1) _ h.table c.count_word-in-loop-slot.ensures;
      increments = slot_counted h.at l m h.increments;
      gap = rw c.longer-gap.ensures (longer_gap _ _ h.gap m.unmarked);
    }
