use Rattle.std.proofs.Common.{◌≡◌}
use Rattle.rounds.specs.Handed.{call_of}
use Rattle.store.specs.Lent.{SameStore}
use Rattle.search.proofs.Going.{Going}
use Rattle.search.proofs.search_rounds.Given as goal

abbrev pub invariant-loop-number : goal.invariant-loop-number
invariant-loop-number l =
    record {
      same_store : SameStore l.initial.store l.store;
      same_table : l.table ≡ l.initial.table;
      going : Going (call_of l.initial.store.layout l.call) l.call.options.iterations l.number l.store l.start;
    }
