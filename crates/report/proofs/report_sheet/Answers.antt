use Rattle.report.proofs.Texts.{printed_as, refused_printed, accepted_printed}
use Rattle.report.proofs.report_sheet.Goals as goal

pub returns-in-Err : goal.returns-in-Err
returns-in-Err c =
    printed_as (rw c.number.ensures (refused_printed c.args.sheet.now c.bench.ensures c.parse.ensures c.in-Err.is)) c.report_refusal.ensures

pub returns-in-Ok : goal.returns-in-Ok
returns-in-Ok c =
    printed_as (accepted_printed c.args.sheet.now c.bench.ensures c.parse.ensures c.in-Ok.is) c.report_search.ensures
