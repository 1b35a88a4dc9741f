use Rattle.std.proofs.Common.{rules, take, drop, sym, arith, length-drop, get_or-drop}
use Rattle.store.specs.Lent.{rows_lent}
use Rattle.filling.proofs.Fronts.{kept_length, copy_more}
use Rattle.filling.proofs.copy_executors.Goals as goal

pub loop-i-preserved : goal.loop-i-preserved
loop-i-preserved c =
    let a = c.args in
    let q = c.requires in
    let l = c.loop-i in
    record {
      same_store = search rules;
      front = copy_more a.store.now.layout (take a.start.kept (rows_lent a.store.now)) (drop a.start.used a.call.tape.now) a.start.kept l.i _
          (kept_length q.holding) (q.kept_nonzero (omega arith)) (omega (arith, length-drop a.start.used a.call.tape.now, q.count_in_bounds))
          (omega (arith, q.count_bound)) (sym (get_or-drop a.start.used a.call.tape.now l.i 0)) c.copy_row.ensures.rows_after l.invariant.front;
    }
