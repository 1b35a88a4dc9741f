use Rattle.std.proofs.Common.{rules, ap, ◌∙◌, set}
use Rattle.store.specs.declared.layout.Layout.{Layout}
use Rattle.store.specs.Store.{zero_row}
use Rattle.store.specs.Lent.{rows_lent}
use Rattle.store.proofs.Rows.{length_rows}
use Rattle.store.proofs.Moves.{zero_on, zero_all}
use Rattle.store.proofs.view.StoreMut.zero_rows.Goals as goal

pub loop-r-preserved : goal.loop-r-preserved
loop-r-preserved c =
    let i = c.loop-r.invariant in
    record {
      same_store = search rules;
      zeroed = zero_on _ _ _ _ _ _ (length_rows _ _ _ _ _) c.loop-r-test.true
          (c.zero_row.ensures.rows_after ∙ ap (λ (s : Layout). set (rows_lent c.loop-r.self) c.loop-r.r (zero_row s)) i.same_store.same_layout) i.zeroed;
    }

pub returns-clause-rows_after : goal.returns-clause-rows_after
returns-clause-rows_after c = zero_all _ _ _ _ _ (length_rows _ _ _ _ _) c.loop-r-test.false c.loop-r.invariant.zeroed
