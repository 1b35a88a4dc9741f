use Rattle.std.proofs.Common.{◌≡◌, take}
use Rattle.rows.specs.Lent.{seen}
use Rattle.machine.specs.Writes.{bytes_from}
use Rattle.machine.proofs.write.write_to.Given as goal

-- so many bytes are copied
abbrev pub invariant-loop-k : goal.invariant-loop-k
invariant-loop-k l = take l.k l.output ≡ bytes_from l.k l.buffer (seen l.view)
