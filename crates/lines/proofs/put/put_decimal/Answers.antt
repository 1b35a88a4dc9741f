use Rattle.std.proofs.Common.{◌∙◌, arith}
use Rattle.writing.proofs.Outputs.{put_as}
use Rattle.lines.proofs.Digits.{decimal_is}
use Rattle.lines.proofs.put.put_decimal.Goals as goal

pub returns-clause-put : goal.returns-clause-put
returns-clause-put c =
    let d = c.decimal-k in
    put_as (d.ensures.digits ∙ decimal_is c.args.n d.result (omega (arith, d.ensures.in_bounds)) d.ensures.len) c.put.ensures
