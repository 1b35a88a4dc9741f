use Rattle.std.proofs.Common.{◌≡◌, ◌-◌}
use Rattle.rows.specs.Rows.{depth_of}
use Rattle.rows.specs.Lent.{lent, SameSlices}
use Rattle.machine.specs.Handing.{halted_for}
use Rattle.machine.proofs.run.run_loop.Given as goal

-- running on comes to what the whole run would have come to
abbrev pub invariant-loop-row : goal.invariant-loop-row
invariant-loop-row l = record {
  same_slices : SameSlices l.initial.row l.row;
  left : halted_for l.handing (l.limit - depth_of (lent l.row)) l.tape l.used (lent l.row)
      ≡ halted_for l.handing (l.limit - depth_of (lent l.initial.row)) l.tape l.initial.used (lent l.initial.row);
}

abbrev pub decreases-loop-row : goal.decreases-loop-row
decreases-loop-row l = l.limit - depth_of (lent l.row)
