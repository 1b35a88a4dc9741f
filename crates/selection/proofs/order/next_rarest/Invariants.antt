use Rattle.std.proofs.Common.{◌≡◌, None, drop}
use Rattle.selection.specs.Selecting.{candidates}
use Rattle.selection.specs.Scanning.{lowest_in}
use Rattle.selection.proofs.order.next_rarest.Given as goal

abbrev pub invariant-loop-row : goal.invariant-loop-row
invariant-loop-row l = lowest_in None (candidates 0 l.scores l.live) ≡ lowest_in l.lowest (candidates l.row (drop l.row l.scores) (drop l.row l.live))
