use Rattle.std.proofs.Common.{length}
use Rattle.tables.specs.Changes.{changed}
use Rattle.tables.proofs.Changes.{changed_length}
use Rattle.tables.proofs.Rows.{nothing_left, row_inside, rest_inside, row_changed, left_passed}
use Rattle.tables.proofs.uncount.uncount_rows.Goals as goal
use Rattle.tables.proofs.uncount.uncount_rows.Goals.{then-rows-r, else-rows-r}

pub uncount_row-requires-clause-inside : goal.uncount_row-requires-clause-inside
uncount_row-requires-clause-inside c =
    row_inside c.args.rows c.loop-r-test.true c.if-rows-r.true c.row.ensures.value (length c.loop-r.table) c.loop-r.invariant.inside

pub loop-r-preserved : goal.loop-r-preserved
loop-r-preserved c =
    let t = c.args.rows in
    let l = c.loop-r-test.true in
    let h = c.loop-r.invariant in
    elim c.if-rows-r.branch [
      | then-rows-r w ↦
          let flag = w.if-rows-r.true in
          let is = w.row.ensures.value in
          let e = w.uncount_row.ensures in
          record {
            inside = rw (w.table-is, e, changed_length) (rest_inside t l flag is (length c.loop-r.table) h.inside);
            table = rw w.table-is (row_changed t l flag is (λ n. 0) _ h.table e);
          }
      | else-rows-r w ↦
          let same = left_passed t l w.if-rows-r.false in
          record { inside = rw (w.table-is, ← same) h.inside; table = rw (w.table-is, ← same) h.table }
    ]

pub returns : goal.returns
unfolding changed
returns c = rw (nothing_left c.args.rows c.loop-r.r c.loop-r-test.false) at c.loop-r.invariant.table
