use Rattle.std.proofs.Common.{◌≡◌, ◌&&◌, refl, ◌∙◌, rules, tests}
use Rattle.std.proofs.lemmas.Iterator.{YieldsList-from_slice}
use Rattle.std.proofs.lemmas.Iterator.Search.{all_from_yields_List}
use Rattle.std.proofs.lemmas.List.Recursion.{same_from_clauses}
use Rattle.std.specs.List.{list_all}
use Rattle.std.specs.Float.Ieee.{le}
use Rattle.rarity.specs.Scores.{are_ordered}
use Rattle.rarity.proofs.are_ordered.Goals as goal

pub returns : goal.returns
unfolding are_ordered
returns c =
    let scores = c.args.scores.now in
    let by_call : c.all.result ≡ list_all (λ s. le s s) scores =
    all_from_yields_List (λ s. le s s) _ _ c.all.result c.all.ensures.ran (YieldsList-from_slice scores cc) (λ x b q k. search (rules, tests)) in
    by_call ∙ same_from_clauses (list_all (λ s. le s s)) are_ordered (λ s b. le s s && b) refl (λ _ _. refl) (λ _ _. refl) scores
