use Rattle.store.specs.Lent.{rows_lent, SameStore}
use Rattle.store.proofs.Moves.{Zeroed}
use Rattle.store.proofs.view.StoreMut.zero_rows.Given as goal

abbrev pub invariant-loop-r : goal.invariant-loop-r
invariant-loop-r l = record {
  same_store : SameStore l.initial.self l.self;
  zeroed : Zeroed l.initial.self.layout l.from l.r (rows_lent l.initial.self) (rows_lent l.self);
}
