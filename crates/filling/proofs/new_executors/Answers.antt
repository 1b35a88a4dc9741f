use Rattle.std.proofs.Common.{rules, take}
use Rattle.loader.specs.Lent.{program_seen}
use Rattle.store.specs.Lent.{rows_lent}
use Rattle.filling.proofs.Fronts.{kept_length, new_more}
use Rattle.filling.proofs.new_executors.Goals as goal

pub loop-r-preserved : goal.loop-r-preserved
loop-r-preserved c =
    let a = c.args in
    let l = c.loop-r in
    record {
      same_store = search rules;
      front = new_more a.store.now.layout (take a.from (rows_lent a.store.now)) a.number (program_seen a.program) a.from l.r
          (kept_length c.requires.holding) l.auto.r c.loop-r-test.true c.load_row.ensures.rows_after l.invariant.front;
    }
