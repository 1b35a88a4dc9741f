use Rattle.std.proofs.Common.{◌≡◌, ◌<◌, ◌≤◌, ℕ, length, sym, ◌∙◌, subst, rules}
use Rattle.store.specs.declared.view.StoreMut.{StoreMut}
use Rattle.store.specs.Lent.{rows_lent}
use Rattle.store.proofs.Rows.{length_rows}
use Rattle.running.proofs.Sweep.{none_run, allowed, is_one_run, all_run}
use Rattle.running.proofs.run_all.Goals as goal

rows_of_store : (s : StoreMut) → s.layout.rows ≡ length (rows_lent s)
rows_of_store s = sym (length_rows s.layout.rows s.layout.words s.layout.marks s.words.now s.marks.now)

pub loop-r-init : goal.loop-r-init
loop-r-init c =
    record { same_store = search rules; swept = none_run _ _ _ _ _ (c.requires.running_len ∙ rows_of_store c.args.store.now) }

pub run_row-ran-requires-clause-step_bound : goal.run_row-ran-requires-clause-step_bound
run_row-ran-requires-clause-step_bound c =
    allowed _ _ _ _ c.loop-r.invariant.swept (subst (λ (n : ℕ). c.loop-r.r < n) (rows_of_store c.args.store.now) c.loop-r-test.true) c.requires.limits_allow

pub loop-r-preserved : goal.loop-r-preserved
loop-r-preserved c =
    let t = c.run_row-ran in
    record {
      same_store = search rules;
      swept =
          is_one_run _ _ _ _ c.loop-r.invariant.swept (subst (λ (n : ℕ). c.loop-r.r < n) (rows_of_store c.args.store.now) c.loop-r-test.true)
          t.ensures.rows_after t.result c.choose-finding.result t.ensures.value t.ensures.running_after c.choose-finding.ensures;
    }

pub returns-clause-value : goal.returns-clause-value
returns-clause-value c =
    (all_run _ _ _ _ c.loop-r.invariant.swept (subst (λ (n : ℕ). n ≤ c.loop-r.r) (rows_of_store c.args.store.now) c.loop-r-test.false)).0

pub returns-clause-rows_after : goal.returns-clause-rows_after
returns-clause-rows_after c =
    (all_run _ _ _ _ c.loop-r.invariant.swept (subst (λ (n : ℕ). n ≤ c.loop-r.r) (rows_of_store c.args.store.now) c.loop-r-test.false)).1

pub returns-clause-running_after : goal.returns-clause-running_after
returns-clause-running_after c =
    (all_run _ _ _ _ c.loop-r.invariant.swept (subst (λ (n : ℕ). n ≤ c.loop-r.r) (rows_of_store c.args.store.now) c.loop-r-test.false)).2
