use Rattle.std.proofs.Common.{◌≡◌, ◌+◌, ◌<◌, ◌^◌, set, sym, ap, ◌∙◌, subst}
use Rattle.rows.specs.Rows.{Row, limit_of}
use Rattle.machine.specs.Runs.{Finished, finished_as, run_of}
use Rattle.store.specs.Lent.{rows_lent}
use Rattle.store.proofs.Rows.{lent_row, row_back}
use Rattle.rounds.specs.Rounds.{row_after}
use Rattle.running.specs.RowRuns.{row_run}
use Rattle.running.proofs.run_row.Goals as goal

pub run-ran-requires-clause-step_bound : goal.run-ran-requires-clause-step_bound
run-ran-requires-clause-step_bound c =
    let q = c.requires in
    subst (λ (z : Row). limit_of z + c.args.step < 2 ^ 64) (sym (lent_row c.args.store.now.fit c.args.r q.r_lt_rows)) q.step_bound

pub returns-clause-value : goal.returns-clause-value
returns-clause-value c =
    let a = c.args in
    let x : finished_as c.run-ran.new.words c.run-ran.new.marks c.run-ran.result ≡ row_run a.step a.tape.now a.used a.r (rows_lent a.store.now) =
    c.run-ran.ensures ∙ ap (λ (z : Row). run_of a.step a.tape.now a.used z) (lent_row a.store.now.fit a.r c.requires.r_lt_rows) in
    ap (λ (z : Finished). z.ran) x

pub returns-clause-rows_after : goal.returns-clause-rows_after
returns-clause-rows_after c =
    let a = c.args in
    let t = c.run-ran in
    let f = a.store.now.fit in
    let x : finished_as t.new.words t.new.marks t.result ≡ row_run a.step a.tape.now a.used a.r (rows_lent a.store.now) =
    t.ensures ∙ ap (λ (z : Row). run_of a.step a.tape.now a.used z) (lent_row f a.r c.requires.r_lt_rows) in
    row_back f a.r c.requires.r_lt_rows t.new.words t.new.marks t.auto.words t.auto.marks
    ∙ ap (λ (z : Finished). set (rows_lent a.store.now) a.r (row_after z)) x
