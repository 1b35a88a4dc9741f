use Rattle.std.proofs.Common.{◌≡◌}
use Rattle.counting.specs.Cells.{byte_addresses}
use Rattle.tables.specs.Changes.{wiped}
use Rattle.tables.proofs.uncount.uncount_word.Given as goal

abbrev pub invariant-loop-b : goal.invariant-loop-b
invariant-loop-b l = l.table ≡ wiped (byte_addresses l.place l.x l.b) l.initial.table
