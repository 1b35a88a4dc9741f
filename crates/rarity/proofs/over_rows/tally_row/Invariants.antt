use Rattle.store.specs.Store.{nth_row}
use Rattle.store.specs.Lent.{rows_seen}
use Rattle.counting.specs.Lent.{rows_taking}
use Rattle.rarity.proofs.Turns.{Upto}
use Rattle.rarity.proofs.over_rows.tally_row.Given as goal

abbrev pub invariant-loop-place : goal.invariant-loop-place
invariant-loop-place l =
    record {
      counted : Upto (rows_taking l.rows) (nth_row (rows_seen l.rows.store) l.r) l.place l.t;
    }
