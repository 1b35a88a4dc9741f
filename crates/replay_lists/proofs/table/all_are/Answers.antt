use Rattle.std.proofs.Common.{eqb, rules, tests}
use Rattle.std.proofs.lemmas.Iterator.{YieldsList-from_slice}
use Rattle.std.proofs.lemmas.Iterator.Search.{all_from_yields_List}
use Rattle.replay_lists.proofs.table.all_are.Goals as goal

pub returns : goal.returns
returns c =
    all_from_yields_List (λ x. eqb x c.args.value) _ _ _ c.all.ensures.ran (YieldsList-from_slice c.args.counters.now cc) (λ x b q k. search (rules, tests))
