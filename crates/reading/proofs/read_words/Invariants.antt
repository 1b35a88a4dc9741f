use Rattle.std.proofs.Common.{◌≡◌, ◌+◌, ◌-◌}
use Rattle.rows.specs.Lent.{lent, SameSlices}
use Rattle.reading.specs.Reading.{full_words}
use Rattle.reading.proofs.read_words.Given as goal

-- reading what is left comes to what reading all of it would have come to
abbrev pub invariant-loop-k : goal.invariant-loop-k
invariant-loop-k l = record {
  same_slices : SameSlices l.initial.row l.row;
  left : full_words (l.n - l.k) l.tape (l.m + l.k) l.used (lent l.row)
      ≡ full_words (l.n - l.initial.k) l.tape (l.m + l.initial.k) l.initial.used (lent l.initial.row);
}
