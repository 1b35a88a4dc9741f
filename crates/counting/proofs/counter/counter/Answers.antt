use Rattle.std.proofs.Common.{arith}
use Rattle.counting.proofs.Counts.{count_taken, count_passed, count_end}
use Rattle.counting.proofs.counter.counter.Goals as goal
use Rattle.counting.proofs.counter.counter.Goals.{then-rows-r, else-rows-r}

pub loop-r-preserved : goal.loop-r-preserved
loop-r-preserved c =
    let t = c.args.rows in
    let l = c.loop-r-test.true in
    let i = c.loop-r.invariant.left in
    record {
      left =
          elim c.if-rows-r.branch [
            | then-rows-r w ↦ count_taken t _ _ l i w.if-rows-r.true w.row.ensures.value w.hits-n.ensures.value w.n-is
            | else-rows-r w ↦ count_passed t _ _ l i w.if-rows-r.false w.n-is
          ];
      few = elim c.if-rows-r.branch [ then-rows-r w ↦ omega arith | else-rows-r w ↦ omega arith ];
    }

pub returns-clause-value : goal.returns-clause-value
returns-clause-value c = count_end c.args.rows _ c.loop-r-test.false c.loop-r.invariant.left
