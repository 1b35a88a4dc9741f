use Rattle.lines.specs.Lines.{answer_line}
use Rattle.writing.proofs.Outputs.{put_more}
use Rattle.lines.proofs.put_answer.Goals as goal

pub returns-clause-put : goal.returns-clause-put
unfolding answer_line
returns-clause-put c =
    put_more c.put_labelled.ensures.put
    (put_more c.put_labelled-2.ensures.put (put_more c.put_labelled-3.ensures.put (put_more c.put_labelled-4.ensures.put c.put.ensures)))
