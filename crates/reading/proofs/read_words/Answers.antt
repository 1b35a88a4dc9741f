use Rattle.std.proofs.Common.{◌∙◌, refl, rules}
use Rattle.std.proofs.lemmas.Result.{err_from_is_err_and}
use Rattle.rows.specs.Lent.{lent}
use Rattle.reading.proofs.Words.{read_on, read_ended, read_all, read_none}
use Rattle.reading.proofs.read_words.Goals as goal

pub returns-in_err-read_word-clause-row_after : goal.returns-in_err-read_word-clause-row_after
returns-in_err-read_word-clause-row_after c =
    let l = c.loop-k in
    let p = err_from_is_err_and c.from_residual.result c.from_residual.ensures.1 in
    rw (p.1, p.2)
    (read_ended _ _ _ _ _ (lent l.row) _ c.loop-k-test.true c.in_err-read_word.ensures.row_after _ refl ∙ l.invariant.left ∙ read_none _ _ _ _ _)

pub loop-k-preserved : goal.loop-k-preserved
loop-k-preserved c =
    let l = c.loop-k in
    record {
      same_slices = search rules;
      left = read_on _ _ _ _ _ (lent l.row) _ c.loop-k-test.true c.in_ok-read_word.ensures.row_after refl ∙ l.invariant.left;
    }

pub returns-clause-row_after : goal.returns-clause-row_after
returns-clause-row_after c = read_all _ _ _ _ _ (lent c.loop-k.row) c.loop-k-test.false ∙ c.loop-k.invariant.left ∙ read_none _ _ _ _ _
