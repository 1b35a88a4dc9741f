use Rattle.std.proofs.Common.{◌≡◌}
use Rattle.store.specs.Lent.{rows_lent, SameStore}
use Rattle.selection.proofs.Placing.{Placing}
use Rattle.selection.proofs.places.place_kept.Given as goal

abbrev pub invariant-loop-place : goal.invariant-loop-place
invariant-loop-place l =
    let s = l.initial.store in
    record {
      same_store : SameStore s l.store;
      placing : Placing s.layout.rows l.order l.places.row_at_place (rows_lent s) (rows_lent l.store) l.place;
      all_rows : l.places.rows ≡ s.layout.rows;
    }
