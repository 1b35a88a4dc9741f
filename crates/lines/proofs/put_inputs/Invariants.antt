use Rattle.std.proofs.Common.{◌+◌, ◌*◌, ◌≤◌, take}
use Rattle.lines.specs.Lines.{input_lines}
use Rattle.writing.specs.Outputs.{Put}
use Rattle.lines.proofs.put_inputs.Given as goal

-- the inputs so far are put
abbrev pub invariant-loop-input : goal.invariant-loop-input
invariant-loop-input l = record {
  upper_bound : l.out.written ≤ l.initial.out.written + 27 * l.input-index;
  put : Put l.initial.out (input_lines (take l.input-index l.inputs)) l.out;
}
