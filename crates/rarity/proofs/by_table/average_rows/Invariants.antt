use Rattle.store.specs.Lent.{rows_seen}
use Rattle.rarity.proofs.Turns.{Written}
use Rattle.rarity.proofs.by_table.average_rows.Given as goal

abbrev pub invariant-loop-r : goal.invariant-loop-r
invariant-loop-r l = record {
  written : Written l.mean l.rows.flags.now (rows_seen l.rows.store) l.rows.store.layout.rows l.r l.scores;
}
