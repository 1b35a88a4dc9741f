use Rattle.std.proofs.Common.{◌≡◌, ◌+◌, ◌-◌, ◌<◌, ◌^◌, length}
use Rattle.rows.specs.Rows.{depth_of, limit_of}
use Rattle.rows.specs.Lent.{lent, SameSlices}
use Rattle.runner.specs.Serving.{served_of}
use Rattle.runner.proofs.Turns.{Serves}
use Rattle.runner.proofs.serve.Given as goal

abbrev pub invariant-loop-buffer : goal.invariant-loop-buffer
invariant-loop-buffer l = record {
  same_slices : SameSlices l.initial.row l.row;
  same_length : length l.output ≡ length l.initial.output;
  step_bound : limit_of (lent l.row) + l.more < 2 ^ 64;
  serves : Serves (served_of l.step l.input (length l.initial.output) 0 (lent l.initial.row)) l.input l.initial.output l.more l.used l.at l.output (lent l.row);
}

abbrev pub decreases-loop-buffer : goal.decreases-loop-buffer
decreases-loop-buffer l = limit_of (lent l.row) + l.more - depth_of (lent l.row)
