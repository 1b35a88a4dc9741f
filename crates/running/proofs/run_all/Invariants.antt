use Rattle.store.specs.Lent.{rows_lent, SameStore}
use Rattle.running.proofs.Sweep.{Swept}
use Rattle.running.proofs.run_all.Given as goal

abbrev pub invariant-loop-r : goal.invariant-loop-r
invariant-loop-r l =
    record {
      same_store : SameStore l.initial.store l.store;
      swept : Swept l.step l.tape l.used (rows_lent l.initial.store) (rows_lent l.store) l.running l.finding l.at l.r;
    }
