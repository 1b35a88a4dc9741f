use Rattle.std.proofs.Common.{◌≡◌, ◌+◌, ◌-◌, arith}
use Rattle.store.proofs.Moves.{parts_trade}
use Rattle.store.proofs.swap.swap_parts.Goals as goal

pub returns : goal.returns
returns g c =
    let s = c.split_at_mut-front in
    let count : c.args.a + c.args.count - c.args.a ≡ c.args.count = omega arith in
    rw (c.swap_with_slice.ensures.after, c.swap_with_slice.ensures.other_after, s.ensures.value, count)
    (parts_trade s.result.0.now s.result.1.now _ _ _ s.ensures.front_len c.requires.apart (omega (arith, s.ensures.back_len)))
