use Rattle.std.proofs.Common.{◌≡◌}
use Rattle.counting.specs.Cells.{byte_addresses}
use Rattle.tables.specs.Changes.{added}
use Rattle.tables.proofs.count.count_word.Given as goal

abbrev pub invariant-loop-b : goal.invariant-loop-b
invariant-loop-b l = l.table ≡ added (byte_addresses l.place l.x l.b) l.initial.table
