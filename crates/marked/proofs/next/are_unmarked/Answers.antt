use Rattle.std.proofs.Common.{rules, eqb-true}
use Rattle.std.proofs.lemmas.Fn.{fold_over, fronts}
use Rattle.std.proofs.lemmas.Iterator.{YieldsList-from_slice}
use Rattle.marked.proofs.Gathering.{Gathered, nothing_gathered, gathered_more}
use Rattle.marked.proofs.next.are_unmarked.Goals as goal

pub returns : goal.returns
returns c e =
    let all = YieldsList-from_slice {s = c.iter.result} c.args.marks.now c.iter.ensures.rest in
    let more = fold_over fronts _ _ Gathered _ (λ _ _ _ _ _ h k. (gathered_more _ h (search rules), search rules)) in
    (more _ _ _ _ all.runs nothing_gathered c.fold.ensures.ran).none (eqb-true _ _ e)
