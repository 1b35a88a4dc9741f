use Rattle.std.proofs.Common.{◌≡◌, ◌≤◌}
use Rattle.laws.proofs.Sums.{sum}
use Rattle.rows.specs.Lent.{seen}
use Rattle.counting.proofs.Probes.{probed}
use Rattle.counting.proofs.cells.hits.Given as goal

abbrev pub invariant-loop-b : goal.invariant-loop-b
invariant-loop-b l = record { so_far : l.n ≡ sum (probed (seen l.row) l.cell l.byte) l.b; few : l.n ≤ l.b }
