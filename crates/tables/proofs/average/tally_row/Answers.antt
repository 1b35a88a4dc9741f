use Rattle.std.proofs.Common.{lit≤, arith, subst, sym}
use Rattle.rows.specs.Lent.{seen}
use Rattle.means.specs.Means.{sum}
use Rattle.means.specs.Tallies.{Within}
use Rattle.tables.proofs.Taking.{within_looser}
use Rattle.tables.proofs.Walks.{at_next}
use Rattle.tables.proofs.Turns.{pc_counters, pc_taken, slot_counters, slot_taken}
use Rattle.tables.proofs.average.tally_row.Goals as goal

pub tally_word-t-requires-clause-counters : goal.tally_word-t-requires-clause-counters
tally_word-t-requires-clause-counters c = pc_counters (seen c.args.row) _ c.requires.counters

pub tally_word-t-requires-clause-small : goal.tally_word-t-requires-clause-small
unfolding sum
tally_word-t-requires-clause-small c = subst (Within 0) (sym c.new.ensures) (record { few = lit≤ tt; small = lit≤ tt })

pub loop-slot-init : goal.loop-slot-init
loop-slot-init c =
    let r = seen c.args.row in
    let m = c.next_marked-slot.ensures in
    record { at = at_next r m; counted = pc_taken r m c.new.ensures c.tally_word-t.ensures.taken; small = within_looser c.tally_word-t.ensures.small (omega arith) }

pub tally_word-t-requires-in-loop-slot-clause-counters : goal.tally_word-t-requires-in-loop-slot-clause-counters
tally_word-t-requires-in-loop-slot-clause-counters c = slot_counters c.loop-slot.invariant.at c.loop-slot-test.true _ c.requires.counters

pub loop-slot-preserved : goal.loop-slot-preserved
loop-slot-preserved c =
    let h = c.loop-slot.invariant in
    let l = c.loop-slot-test.true in
    let m = c.next_marked-slot-in-loop-slot.ensures in
    record {
      at = at_next (seen c.args.row) m;
      counted = slot_taken h.at l m h.counted c.tally_word-t-in-loop-slot.ensures.taken;
      small = within_looser c.tally_word-t-in-loop-slot.ensures.small (omega (arith, m.unmarked.forward));
    }
