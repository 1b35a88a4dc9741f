use Rattle.std.proofs.Common.{refl, ◌∙◌, arith, rules}
use Rattle.std.proofs.lemmas.Result.{err_from_is_err_and}
use Rattle.search.proofs.Going.{begins, going_limits, follows_on, ends_with, done}
use Rattle.search.proofs.search_rounds.Goals as goal

pub loop-number-init : goal.loop-number-init
loop-number-init c = record { same_store = search rules; same_table = refl; going = begins _ _ _ refl c.requires.holding }

pub round-requires-clause-table : goal.round-requires-clause-table
round-requires-clause-table c =
    let kept = c.loop-number.invariant in
    rw (kept.same_table, kept.same_store.same_layout) c.requires.table

pub round-requires-clause-limits_allow : goal.round-requires-clause-limits_allow
round-requires-clause-limits_allow c = going_limits c.loop-number.invariant.going c.loop-number-test.true (omega arith) (omega arith)

pub returns-in_err-start-clause-searched : goal.returns-in_err-start-clause-searched
returns-in_err-start-clause-searched c =
    let p = err_from_is_err_and c.from_residual.result c.from_residual.ensures.1 in
    let e = c.round.ensures in
    rw (p.1, p.2)
    (ends_with c.loop-number.invariant.going c.loop-number-test.true c.args.call refl _ e.same_store _ (rw c.in_err-start.was at e.result_after))

pub loop-number-preserved : goal.loop-number-preserved
loop-number-preserved c =
    let e = c.round.ensures in
    record {
      same_store = search rules;
      same_table = e.same_table ∙ c.loop-number.invariant.same_table;
      going =
          follows_on c.loop-number.invariant.going c.loop-number-test.true c.args.call refl _ e.same_store _ c.requires.callable
          (rw c.in_ok-start.was at e.result_after) (rw c.in_ok-start.was at e.ready);
    }

pub returns-clause-searched : goal.returns-clause-searched
returns-clause-searched c = done c.loop-number.invariant.going c.loop-number-test.false
