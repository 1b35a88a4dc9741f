use Rattle.std.proofs.Common.{◌-◌, take}
use Rattle.loader.specs.Lent.{program_seen}
use Rattle.store.specs.Lent.{rows_lent, SameStore}
use Rattle.filling.specs.Filling.{with_new}
use Rattle.filling.proofs.Fronts.{Front}
use Rattle.filling.proofs.new_executors.Given as goal

abbrev pub invariant-loop-r : goal.invariant-loop-r
invariant-loop-r l =
    let store = l.initial.store in
    record {
      same_store : SameStore store l.store;
      front : Front store.layout (with_new store.layout l.number (program_seen l.program) (take l.from (rows_lent store)) (l.r - l.from)) (rows_lent l.store);
    }
