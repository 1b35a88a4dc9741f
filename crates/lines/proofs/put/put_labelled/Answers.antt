use Rattle.writing.proofs.Outputs.{put_more}
use Rattle.lines.proofs.put.put_labelled.Goals as goal

pub returns-clause-put : goal.returns-clause-put
returns-clause-put c = put_more c.put.ensures c.put_decimal.ensures.put
