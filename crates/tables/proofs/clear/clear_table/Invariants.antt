use Rattle.std.proofs.Common.{◌-◌, length}
use Rattle.tables.proofs.Clearing.{Cleared}
use Rattle.tables.proofs.clear.clear_table.Given as goal

abbrev pub invariant-loop-from : goal.invariant-loop-from
invariant-loop-from l = Cleared (length l.fn.table) l.from l.table

abbrev pub decreases-loop-from : goal.decreases-loop-from
decreases-loop-from l = length l.table - l.from
