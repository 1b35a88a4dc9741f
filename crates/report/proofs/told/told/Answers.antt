use Rattle.std.proofs.Common.{arith}
use Rattle.report.proofs.Rows.{tells_nothing, room_in}
use Rattle.report.proofs.told.told.Goals as goal

pub returns-then-row-store-clause-few : goal.returns-then-row-store-clause-few
returns-then-row-store-clause-few c =
    let s = c.args.store in
    let room = room_in s.layout s.words.now s.marks.now c.row.ensures.value s.fit (omega (arith, c.if-row-store.true)) in
    omega (arith, c.requires, c.told_in.ensures.within, room)

pub returns-else-row-store-clause-value : goal.returns-else-row-store-clause-value
returns-else-row-store-clause-value c =
    let s = c.args.store in
    rw (c.in-Found.is, tells_nothing s.layout s.words.now s.marks.now _ c.if-row-store.false)
