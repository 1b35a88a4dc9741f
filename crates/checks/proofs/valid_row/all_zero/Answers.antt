use Rattle.std.proofs.Common.{◌∙◌, eqb, rules}
use Rattle.std.proofs.lemmas.Iterator.{YieldsList-from_slice}
use Rattle.checks.proofs.Scans.{joined, judged, zeros}
use Rattle.checks.proofs.valid_row.all_zero.Goals as goal

pub returns : goal.returns
returns c =
    let words = c.args.words.now in
    judged (λ x. eqb x 0) _ c.fold.ensures.ran (YieldsList-from_slice words cc) (λ a x b q k. search (rules, joined)) ∙ zeros words
