use Rattle.std.proofs.Common.{arith}
use Rattle.lines.specs.Lines.{told_lines}
use Rattle.writing.proofs.Outputs.{put_none, put_more}
use Rattle.lines.proofs.put_told.Goals as goal

pub returns-in-Some-clause-put : goal.returns-in-Some-clause-put
unfolding told_lines
returns-in-Some-clause-put c = rw c.in-Some.is (put_more c.put_line.ensures.put c.put_inputs.ensures.put)

pub returns-in_default-clause-put : goal.returns-in_default-clause-put
unfolding told_lines
returns-in_default-clause-put c = rw c.in_default.is (put_none c.args.out.now (omega (arith, c.requires)))
