use Rattle.std.proofs.Common.{◌≡◌, ◌+◌, ◌-◌}
use Rattle.rows.specs.Lent.{seen}
use Rattle.calls.specs.Calls.{all_concrete}
use Rattle.calls.proofs.system.all_concrete.Given as goal

abbrev pub invariant-loop-k : goal.invariant-loop-k
invariant-loop-k l = all_concrete (l.n - l.k) (l.m + l.k) (seen l.row) ≡ all_concrete (l.n - l.initial.k) (l.m + l.initial.k) (seen l.row)
