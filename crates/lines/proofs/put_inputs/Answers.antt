use Rattle.std.proofs.Common.{sym, arith}
use Rattle.lines.specs.Lines.{input_lines}
use Rattle.writing.proofs.Outputs.{put_none, put_more, put_as}
use Rattle.lines.proofs.Inputs.{inputs_more}
use Rattle.lines.proofs.put_inputs.Goals as goal

pub loop-input-init : goal.loop-input-init
unfolding input_lines
loop-input-init c = record { upper_bound = omega arith; put = put_none c.args.out.now (omega arith) }

pub loop-input-preserved : goal.loop-input-preserved
loop-input-preserved c =
    let l = c.loop-input in
    record {
      upper_bound = omega arith;
      put = put_as (sym (inputs_more c.args.inputs.now l.input-index (omega arith))) (put_more l.invariant.put c.put_line.ensures.put);
    }
