use Rattle.std.proofs.Common.{◌+◌}
use Rattle.replay_parts.specs.Parts.{left_of}
use Rattle.replay_orders.proofs.parts.print_in_parts.Given as goal

abbrev pub decreases-loop-part : goal.decreases-loop-part
decreases-loop-part l = left_of l.parts + l.part
