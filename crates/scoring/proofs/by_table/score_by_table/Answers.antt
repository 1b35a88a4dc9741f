use Rattle.std.proofs.Common.{length, ◌∙◌, ◌∷◌, []}
use Rattle.std.proofs.lemmas.Result.{err_from_is_err_and}
use Rattle.checks.proofs.Tests.{still_refused}
use Rattle.tables.specs.Lent.{table_left}
use Rattle.scoring.specs.Entry.{scores_left}
use Rattle.scoring.specs.ByTable.{table_scoring_checked}
use Rattle.scoring.proofs.Accepted.{sizes_accepted, rows_checked, refused_answer, valid_answer}
use Rattle.scoring.proofs.TableScored.{zero_table, some_counters, promised}
use Rattle.scoring.proofs.by_table.score_by_table.Goals as goal

pub new-requires : goal.new-requires
new-requires c =
    let a = c.args in
    let z = sizes_accepted a.memory a.log a.rows a.words.now a.marks.now (length a.scores.now) (_ ∷ []) c.check_table_sizes.ensures c.in_ok-check_table_sizes.was in
    record { memory = z.memory_most; log = z.log_most }

pub invariant_of-store : goal.invariant_of-store
invariant_of-store c =
    let a = c.args in
    let z = sizes_accepted a.memory a.log a.rows a.words.now a.marks.now (length a.scores.now) (_ ∷ []) c.check_table_sizes.ensures c.in_ok-check_table_sizes.was in
    record { fit = rw c.new.ensures z.fit }

pub score_store-requires-clause-one_each : goal.score_store-requires-clause-one_each
score_store-requires-clause-one_each c =
    let a = c.args in
    let z = sizes_accepted a.memory a.log a.rows a.words.now a.marks.now (length a.scores.now) (_ ∷ []) c.check_table_sizes.ensures c.in_ok-check_table_sizes.was in
    rw c.new.ensures z.one_each

pub score_store-requires-clause-table : goal.score_store-requires-clause-table
score_store-requires-clause-table c =
    let a = c.args in
    zero_table a.memory a.log a.rows _ _ _ a.table.now c.check_table_sizes.ensures c.in_ok-check_table_sizes.was c.clear_table.ensures c.new.ensures

pub returns-in_err-check_table_sizes : goal.returns-in_err-check_table_sizes
unfolding table_scoring_checked scores_left table_left
returns-in_err-check_table_sizes c =
    let a = c.args in
    let e = err_from_is_err_and c.from_residual.result c.from_residual.ensures.1 in
    let k = still_refused _ c.check_table_sizes.ensures _ c.in_err-check_table_sizes.was in
    promised a.memory a.log a.rows a.mean a.words.now a.marks.now a.table.now a.scores.now
    (refused_answer _ k (rw (e.1, e.2)))
    (rw e.1 tt) (rw e.1) (rw k)

pub returns-in_err-test : goal.returns-in_err-test
unfolding table_scoring_checked scores_left table_left
returns-in_err-test c =
    let a = c.args in
    let e = err_from_is_err_and c.from_residual-in_err-test.result c.from_residual-in_err-test.ensures.1 in
    let k = rows_checked _ _ _ _ _ _ c.check_table_sizes.ensures c.in_ok-check_table_sizes.was c.new.ensures c.all_valid.ensures c.test.ensures ∙ c.in_err-test.was in
    promised a.memory a.log a.rows a.mean a.words.now a.marks.now a.table.now a.scores.now
    (refused_answer _ k (rw (e.1, e.2)))
    (rw e.1 tt) (rw e.1) (rw k)

pub returns : goal.returns
unfolding table_scoring_checked table_left
returns c =
    let a = c.args in
    let n = c.new.ensures in
    let x = rw n at c.score_store.ensures in
    let k = rows_checked _ _ _ _ _ _ c.check_table_sizes.ensures c.in_ok-check_table_sizes.was n c.all_valid.ensures c.test.ensures ∙ c.in_ok-test.was in
    let some = some_counters a.memory a.log a.rows _ _ _ a.table.now c.check_table_sizes.ensures c.in_ok-check_table_sizes.was c.clear_table.ensures in
    promised a.memory a.log a.rows a.mean a.words.now a.marks.now a.table.now a.scores.now
    (valid_answer _ k x.value) (x.increments some) x.scores_after (x.same_table ∙ c.clear_table.ensures ∙ rw k)
