use Rattle.std.proofs.Common.{take, drop}
use Rattle.store.specs.Lent.{rows_lent, SameStore}
use Rattle.filling.specs.Filling.{with_copies}
use Rattle.filling.proofs.Fronts.{Front}
use Rattle.filling.proofs.copy_executors.Given as goal

abbrev pub invariant-loop-i : goal.invariant-loop-i
invariant-loop-i l =
    let before = rows_lent l.initial.store in
    record {
      same_store : SameStore l.initial.store l.store;
      front : Front l.initial.store.layout (with_copies (take l.kept before) (take l.i (drop l.used l.tape))) (rows_lent l.store);
    }
