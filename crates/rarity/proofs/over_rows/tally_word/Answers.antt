use Rattle.std.proofs.Common.{refl, arith}
use Rattle.tables.proofs.Taking.{bytes_taken_none, bytes_taken, within_looser, within_more}
use Rattle.rarity.proofs.over_rows.tally_word.Goals as goal

pub loop-b-init : goal.loop-b-init
loop-b-init c = record { taken = bytes_taken_none _ _; small = within_looser c.requires.small (omega arith) }

pub loop-b-preserved : goal.loop-b-preserved
loop-b-preserved c =
    record {
      taken =
          bytes_taken _ _ c.loop-b.b c.loop-b.invariant.taken (rw (c.cell_of.ensures, c.byte_of.ensures) refl) c.counter.ensures.value c.add-t.ensures;
      small = within_more c.loop-b.invariant.small c.counter.ensures.at_most c.add-t.ensures (omega arith);
    }
