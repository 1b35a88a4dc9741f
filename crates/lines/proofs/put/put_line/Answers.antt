use Rattle.writing.proofs.Outputs.{put_more}
use Rattle.lines.proofs.put.put_line.Goals as goal

pub returns-clause-put : goal.returns-clause-put
returns-clause-put c = put_more c.put_labelled.ensures.put c.put.ensures
