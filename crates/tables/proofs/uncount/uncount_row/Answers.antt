use Rattle.std.proofs.Common.{length}
use Rattle.rows.specs.Lent.{seen}
use Rattle.tables.proofs.Changes.{changed_length}
use Rattle.tables.proofs.Walks.{at_next}
use Rattle.tables.proofs.Turns.{pc_inside, pc_changed, slot_inside, slot_changed}
use Rattle.tables.proofs.uncount.uncount_row.Goals as goal

pub uncount_word-requires-clause-inside : goal.uncount_word-requires-clause-inside
uncount_word-requires-clause-inside c = pc_inside (seen c.args.row) _ c.requires.inside

pub loop-slot-init : goal.loop-slot-init
loop-slot-init c =
    let r = seen c.args.row in
    let m = c.next_marked-slot.ensures in
    record { at = at_next r m; table = pc_changed r m (λ n. 0) _ c.uncount_word.ensures }

pub uncount_word-requires-in-loop-slot-clause-inside : goal.uncount_word-requires-in-loop-slot-clause-inside
uncount_word-requires-in-loop-slot-clause-inside c =
    let h = c.loop-slot.invariant in
    rw (h.table, changed_length) (slot_inside h.at c.loop-slot-test.true (length c.args.table.now) c.requires.inside)

pub loop-slot-preserved : goal.loop-slot-preserved
loop-slot-preserved c =
    let h = c.loop-slot.invariant in
    let m = c.next_marked-slot-in-loop-slot.ensures in
    record {
      at = at_next (seen c.args.row) m;
      table = slot_changed h.at c.loop-slot-test.true m (λ n. 0) _ h.table c.uncount_word-in-loop-slot.ensures;
    }
