use Rattle.filling.proofs.Outcomes.{Planned, short_of_tape, answered, all_filled}
use Rattle.filling.proofs.create_missing_executors.Goals as goal

pub returns-then-saturating_sub-count-clause-filled : goal.returns-then-saturating_sub-count-clause-filled
returns-then-saturating_sub-count-clause-filled c =
    let n = c.count_copies-count.ensures in
    short_of_tape {c = c.args.call} c.args.number
    (record { holds = c.requires.holding; counted = n.value; room = n.within; remaining = c.saturating_sub.ensures }) c.if-saturating_sub-count.true

pub returns-clause-filled : goal.returns-clause-filled
returns-clause-filled c =
    let n = c.count_copies-count.ensures in
    let a = c.args in
    let p : Planned a.store.now a.call a.start c.count_copies-count.result c.saturating_sub.result =
    record { holds = c.requires.holding; counted = n.value; room = n.within; remaining = c.saturating_sub.ensures } in
    let enough = c.if-saturating_sub-count.false in
    let t = c.copy_executors.ensures in (
      answered a.number p enough,
      all_filled a.number p enough _ t.same_store t.rows_after c.new_executors.ensures.rows_after,
    )
