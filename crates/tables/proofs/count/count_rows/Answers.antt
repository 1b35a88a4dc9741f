use Rattle.std.proofs.Common.{refl, ◌+◌, arith, length-set}
use Rattle.counting.specs.Lent.{rows_taking}
use Rattle.tables.specs.Changes.{changed}
use Rattle.tables.proofs.Rows.{nothing_left, row_room, rest_room, row_changed, row_counted, left_passed, gap_noted}
use Rattle.tables.proofs.Stores.{taking_few, taking_inside, taking_increments}
use Rattle.tables.proofs.Totals.{zeros_room, counted_from_zeros}
use Rattle.tables.proofs.count.count_rows.Goals as goal
use Rattle.tables.proofs.count.count_rows.Goals.{then-rows-r, else-rows-r}

pub loop-r-init : goal.loop-r-init
loop-r-init c =
    let t = c.args.rows in
    record {
      room = rw c.requires.table (zeros_room (rows_taking t) _ (taking_inside t) (taking_few t));
      table = refl;
      increments = omega arith;
      many = refl;
      gaps = c.requires.gaps;
    }

pub count_row-counted-requires-clause-room : goal.count_row-counted-requires-clause-room
count_row-counted-requires-clause-room c =
    row_room c.args.rows c.loop-r-test.true c.if-rows-r.true c.row.ensures.value c.loop-r.invariant.room

pub overflow_add-increments : goal.overflow_add-increments
overflow_add-increments c =
    let t = c.args.rows in
    let left = row_counted t c.loop-r-test.true c.if-rows-r.true c.row.ensures.value _ c.loop-r.invariant.increments c.count_row-counted.ensures.increments in
    omega (arith, left, taking_increments t)

pub loop-r-preserved : goal.loop-r-preserved
loop-r-preserved c =
    let t = c.args.rows in
    let l = c.loop-r-test.true in
    let h = c.loop-r.invariant in
    elim c.if-rows-r.branch [
      | then-rows-r w ↦
          let flag = w.if-rows-r.true in
          let is = w.row.ensures.value in
          let e = w.count_row-counted.ensures in
          record {
            room = rw w.table-is (rest_room t l flag is h.room e.table);
            table = rw w.table-is (row_changed t l flag is (λ n. n + 1) _ h.table e.table);
            increments = rw w.increments-is (row_counted t l flag is _ h.increments e.increments);
            many = rw w.gaps-is (rw length-set h.many);
            gaps = gap_noted h.gaps (omega (arith, h.many, c.requires.a_gap_each)) is e.gap w.gaps-is;
          }
      | else-rows-r w ↦
          let same = left_passed t l w.if-rows-r.false in
          record {
            room = rw (w.table-is, ← same) h.room;
            table = rw (w.table-is, ← same) h.table;
            increments = rw (w.increments-is, ← same) h.increments;
            many = rw w.gaps-is h.many;
            gaps = rw w.gaps-is h.gaps;
          }
    ]

pub returns-clause-table : goal.returns-clause-table
unfolding changed
returns-clause-table c = rw (nothing_left c.args.rows c.loop-r.r c.loop-r-test.false) at c.loop-r.invariant.table

pub returns-clause-counted : goal.returns-clause-counted
unfolding changed
returns-clause-counted c =
    let t = c.args.rows in
    let done = rw (nothing_left t c.loop-r.r c.loop-r-test.false) at c.loop-r.invariant.table in
    rw (done, c.requires.table) (counted_from_zeros (rows_taking t) _ (taking_inside t))

pub returns-clause-increments : goal.returns-clause-increments
returns-clause-increments c =
    let all = rw (nothing_left c.args.rows c.loop-r.r c.loop-r-test.false) at c.loop-r.invariant.increments in
    omega (arith, all)
