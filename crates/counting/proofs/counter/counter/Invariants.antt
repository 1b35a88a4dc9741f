use Rattle.std.proofs.Common.{◌≡◌, ◌+◌, ◌*◌, ◌≤◌}
use Rattle.counting.specs.Cells.{address_of}
use Rattle.counting.specs.Counters.{counter_in}
use Rattle.counting.specs.Lent.{rows_taking}
use Rattle.counting.proofs.Counts.{count_from}
use Rattle.counting.proofs.counter.counter.Given as goal

abbrev pub invariant-loop-r : goal.invariant-loop-r
invariant-loop-r l =
    let a = address_of l.cell l.byte in
    record { left : l.n + count_from l.r l.rows a ≡ counter_in (rows_taking l.rows) a; few : l.n ≤ 8 * l.r }
