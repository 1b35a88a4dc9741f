use Rattle.store.proofs.Moves.{rows_swap}
use Rattle.store.proofs.view.StoreMut.swap_rows.Goals as goal

pub returns-then-a-b-clause-rows_after : goal.returns-then-a-b-clause-rows_after
returns-then-a-b-clause-rows_after c =
    let f = c.args.self.now.fit in
    rw (c.swap_parts.ensures, c.swap_parts-then-a-b.ensures)
    (rows_swap _ _ _ _ _ _ _ f.all_words f.all_marks c.if-a-b.true c.requires.within)
