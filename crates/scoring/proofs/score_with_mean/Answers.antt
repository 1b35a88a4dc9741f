use Rattle.std.proofs.Common.{length, ◌∙◌, []}
use Rattle.std.proofs.lemmas.Result.{err_from_is_err_and}
use Rattle.checks.proofs.Tests.{still_refused}
use Rattle.scoring.specs.Entry.{scoring_checked, scores_left}
use Rattle.scoring.proofs.Accepted.{sizes_accepted, rows_checked, refused_answer, valid_answer}
use Rattle.scoring.proofs.Scored.{promised}
use Rattle.scoring.proofs.score_with_mean.Goals as goal

pub new-requires : goal.new-requires
new-requires c =
    let a = c.args in
    let z = sizes_accepted a.memory a.log a.rows a.words.now a.marks.now (length a.scores.now) [] c.check_sizes.ensures c.in_ok-check_sizes.was in
    record { memory = z.memory_most; log = z.log_most }

pub invariant_of-store : goal.invariant_of-store
invariant_of-store c =
    let a = c.args in
    let z = sizes_accepted a.memory a.log a.rows a.words.now a.marks.now (length a.scores.now) [] c.check_sizes.ensures c.in_ok-check_sizes.was in
    record { fit = rw c.new.ensures z.fit }

pub score_store-requires-clause-one_each : goal.score_store-requires-clause-one_each
score_store-requires-clause-one_each c =
    let a = c.args in
    let z = sizes_accepted a.memory a.log a.rows a.words.now a.marks.now (length a.scores.now) [] c.check_sizes.ensures c.in_ok-check_sizes.was in
    rw c.new.ensures z.one_each

pub returns-in_err-check_sizes : goal.returns-in_err-check_sizes
unfolding scoring_checked scores_left
returns-in_err-check_sizes c =
    let a = c.args in
    let e = err_from_is_err_and c.from_residual.result c.from_residual.ensures.1 in
    promised a.memory a.log a.rows a.mean a.words.now a.marks.now a.scores.now
    (refused_answer _ (still_refused _ c.check_sizes.ensures _ c.in_err-check_sizes.was) (rw (e.1, e.2)))
    (rw e.1)

pub returns-in_err-test : goal.returns-in_err-test
unfolding scoring_checked scores_left
returns-in_err-test c =
    let a = c.args in
    let e = err_from_is_err_and c.from_residual-in_err-test.result c.from_residual-in_err-test.ensures.1 in
    let k = rows_checked _ _ _ _ _ _ c.check_sizes.ensures c.in_ok-check_sizes.was c.new.ensures c.all_valid.ensures c.test.ensures in
    promised a.memory a.log a.rows a.mean a.words.now a.marks.now a.scores.now
    (refused_answer _ (k ∙ c.in_err-test.was) (rw (e.1, e.2)))
    (rw e.1)

pub returns-in_err-score_store : goal.returns-in_err-score_store
unfolding scoring_checked scores_left
returns-in_err-score_store c =
    let a = c.args in
    let n = c.new.ensures in
    let x = rw n at c.in_err-score_store.ensures in
    let e = err_from_is_err_and c.from_residual-in_err-score_store.result c.from_residual-in_err-score_store.ensures.1 in
    let k = rows_checked _ _ _ _ _ _ c.check_sizes.ensures c.in_ok-check_sizes.was n c.all_valid.ensures c.test.ensures in
    promised a.memory a.log a.rows a.mean a.words.now a.marks.now a.scores.now
    (valid_answer _ (k ∙ c.in_ok-test.was) (rw (e.1, e.2) x.value))
    (x.scores_after ∙ rw e.1)

pub returns : goal.returns
unfolding scoring_checked scores_left
returns c =
    let a = c.args in
    let n = c.new.ensures in
    let x = rw n at c.in_ok-score_store.ensures in
    let k = rows_checked _ _ _ _ _ _ c.check_sizes.ensures c.in_ok-check_sizes.was n c.all_valid.ensures c.test.ensures in
    promised a.memory a.log a.rows a.mean a.words.now a.marks.now a.scores.now (valid_answer _ (k ∙ c.in_ok-test.was) x.value) x.scores_after
