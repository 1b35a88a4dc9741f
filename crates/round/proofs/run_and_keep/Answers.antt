use Rattle.round.proofs.Parts.{front_is}
use Rattle.round.proofs.Running.{flags_many, ended, selects}
use Rattle.round.proofs.run_and_keep.Goals as goal

pub returns-in_default-clause-result_after : goal.returns-in_default-clause-result_after
returns-in_default-clause-result_after c =
    let a = c.args in
    let r = c.run_all-all.ensures in
    ended a.options a.tape.now a.used a.store.now r.value r.rows_after c.in_default.not-Nothing

pub returns-clause-result_after : goal.returns-clause-result_after
returns-clause-result_after c =
    let a = c.args in
    let s = a.store.now in
    let r = c.run_all-all.ensures in
    let many = flags_many a.options a.tape.now a.used s in
    selects a.options a.tape.now a.used s r.value r.rows_after
    (front_is s.layout.rows _ _ r.running_after many) c.in-Nothing.is c.keep_rarest.ensures.result_after
