use Rattle.std.proofs.Common.{◌<◌, arith}
use Rattle.store.proofs.Moves.{rows_copy}
use Rattle.store.proofs.view.StoreMut.copy_row.Goals as goal

pub returns-clause-rows_after : goal.returns-clause-rows_after
returns-clause-rows_after c =
    let f = c.args.self.now.fit in
    let inside : c.args.from < c.args.self.now.layout.rows = omega arith in
    rw (c.copy_part.ensures, c.copy_part-2.ensures)
    (rows_copy _ _ _ _ _ _ _ f.all_words f.all_marks inside c.requires.within)
