use Rattle.std.proofs.Common.{◌∙◌}
use Rattle.scoring.proofs.Turns.{valid_passed, valid_failed, valid_all}
use Rattle.scoring.proofs.all_valid.Goals as goal

pub returns-then-not-valid_row : goal.returns-then-not-valid_row
returns-then-not-valid_row c =
    valid_failed c.args.store.fit c.loop-r.r c.loop-r-test.true c.row.ensures.value c.valid_row.ensures c.if-not-valid_row.true ∙ c.loop-r.invariant

pub loop-r-preserved : goal.loop-r-preserved
loop-r-preserved c =
    valid_passed c.args.store.fit c.loop-r.r c.loop-r-test.true c.row.ensures.value c.valid_row.ensures c.if-not-valid_row.false ∙ c.loop-r.invariant

pub returns : goal.returns
returns c = valid_all _ _ _ _ c.loop-r-test.false ∙ c.loop-r.invariant
