use Rattle.std.proofs.Common.{◌≡◌, ◌-◌}
use Rattle.rows.specs.Lent.{lent, SameSlices}
use Rattle.loader.specs.Loading.{loaded_from}
use Rattle.loader.proofs.load_segment.Given as goal

-- loading what is left comes to what loading all of it would have come to
abbrev pub invariant-loop-k : goal.invariant-loop-k
invariant-loop-k l = record {
  same_slices : SameSlices l.initial.row l.row;
  left : loaded_from (l.n - l.k) l.k l.m l.segment.bytes.now (lent l.row) ≡ loaded_from (l.n - l.initial.k) l.initial.k l.m l.segment.bytes.now (lent l.initial.row);
}
