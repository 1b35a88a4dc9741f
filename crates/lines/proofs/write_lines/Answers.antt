use Rattle.std.proofs.Common.{rules}
use Rattle.lines.specs.Lines.{lines}
use Rattle.writing.proofs.Outputs.{put_more, put_front}
use Rattle.lines.proofs.write_lines.Goals as goal

pub returns : goal.returns
unfolding lines
returns c =
    let new = c.new-output.ensures in
    let front = put_front new.bytes new.nothing (put_more c.put_answer.ensures.put (put_more c.put_told.ensures.put c.put_line.ensures.put)) in
    record { value = front.0; out_after = search (rules, front.1.0); upper_bound = front.1.1 }
