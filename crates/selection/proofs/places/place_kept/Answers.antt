use Rattle.std.proofs.Common.{rules, ◌∙◌}
use Rattle.store.proofs.Rows.{length_rows}
use Rattle.selection.proofs.Placing.{place_starts, place_turn, placed}
use Rattle.selection.proofs.places.place_kept.Goals as goal

pub loop-place-init : goal.loop-place-init
loop-place-init c =
    let p = c.new-places.ensures in
    record { same_store = search rules; placing = place_starts _ (length_rows _ _ _ _ _) p.own; all_rows = p.rows }

pub loop-place-preserved : goal.loop-place-preserved
loop-place-preserved c =
    let i = c.loop-place.invariant in
    let e = c.exchange-from.ensures in
    record {
      same_store = search rules;
      placing =
          place_turn c.requires.numbers i.placing i.all_rows c.loop-place.places.inverse c.loop-place-test.true _ _
          (rw e.from at e.exchanged) (rw e.from at c.swap_rows.ensures.rows_after);
      all_rows = e.rows ∙ i.all_rows;
    }

pub returns-clause-first : goal.returns-clause-first
returns-clause-first c = placed c.requires.numbers c.loop-place.invariant.placing c.loop-place-test.false
