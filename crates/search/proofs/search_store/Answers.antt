use Rattle.search.proofs.Leaving.{left_in}
use Rattle.search.proofs.search_store.Goals as goal

pub returns-clause-left_after : goal.returns-clause-left_after
returns-clause-left_after c =
    left_in c.search_rounds.new.store _ _ (rw (c.ended_of.ensures, ← c.zero_rows.ensures.same_store.same_layout) c.search_rounds.ensures.searched)
