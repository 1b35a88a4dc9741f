use Rattle.std.proofs.Common.{ℕ}
use Rattle.rows.specs.Lent.{lent}
use Rattle.machine.specs.Writes.{bytes_from}
use Rattle.runner.proofs.Printing.{part_wrote}
use Rattle.runner.proofs.print.Goals as goal

pub returns-clause-wrote : goal.returns-clause-wrote
returns-clause-wrote c =
    let a = c.args in
    part_wrote a.at a.size a.output.now c.requires.size_in_bounds (λ (n : ℕ). bytes_from n a.buffer (lent a.row.now)) _ c.write_to.auto.output c.write_to.ensures.output_after
