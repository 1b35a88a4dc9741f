use Rattle.std.proofs.Common.{refl, sym, ◌∙◌, length-set, arith}
use Rattle.selection.proofs.Finding.{order_starts, order_turn, order_ends, order_dry}
use Rattle.selection.proofs.order.find_order.Goals as goal

pub loop-live-init : goal.loop-live-init
loop-live-init c = record { ordering = order_starts _ _ _ _ c.requires.a_flag_each c.requires.empty; same_live = refl }

pub returns-in_default : goal.returns-in_default
returns-in_default c = order_dry c.loop-live.invariant.ordering (sym c.in_default.is ∙ c.next_rarest.ensures)

pub push-requires : goal.push-requires
push-requires c =
    let t = order_turn c.loop-live.invariant.ordering (omega arith) _ (sym c.in-Some.is ∙ c.next_rarest.ensures) in
    (omega arith, omega (arith, t.room))

pub bounds-live-rarest : goal.bounds-live-rarest
bounds-live-rarest c = (order_turn c.loop-live.invariant.ordering (omega arith) _ (sym c.in-Some.is ∙ c.next_rarest.ensures)).row

pub loop-live-preserved : goal.loop-live-preserved
loop-live-preserved c =
    let t = order_turn c.loop-live.invariant.ordering (omega arith) _ (sym c.in-Some.is ∙ c.next_rarest.ensures) in
    record { ordering = rw c.push.ensures.items t.next; same_live = simp length-set c.loop-live.invariant.same_live }

pub returns : goal.returns
returns c = order_ends c.loop-live.invariant.ordering (omega arith)
