use Rattle.std.proofs.Common.{◌≡◌, ◌-◌, length}
use Rattle.arrayvec.specs.ArrayVec.{array_vec_len}
use Rattle.selection.proofs.Finding.{Ordering}
use Rattle.selection.proofs.order.find_order.Given as goal

abbrev pub invariant-loop-live : goal.invariant-loop-live
invariant-loop-live l =
    record { ordering : Ordering l.selection l.scores l.initial.live l.live l.order.items; same_live : length l.live ≡ length l.initial.live }

abbrev pub decreases-loop-live : goal.decreases-loop-live
decreases-loop-live l = l.selection - array_vec_len l.order
