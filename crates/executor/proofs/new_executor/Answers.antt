use Rattle.std.proofs.Common.{sym, ◌∙◌}
use Rattle.std.proofs.lemmas.Result.{err_from_is_err_and}
use Rattle.rows.specs.Rows.{row}
use Rattle.loader.specs.Lent.{program_seen}
use Rattle.executor.proofs.Accepted.{sizes_accepted, creation_refused, creation_tested, creation_fits}
use Rattle.executor.proofs.Born.{not_accepted, made_born}
use Rattle.executor.proofs.new_executor.Goals as goal

pub returns-in_err-check_sizes-clause-value : goal.returns-in_err-check_sizes-clause-value
returns-in_err-check_sizes-clause-value c =
    let a = c.args in
    let e = err_from_is_err_and c.from_residual.result c.from_residual.ensures.1 in
    rw (e.1, e.2)
    (creation_refused a.memory a.log (row a.words.now a.marks.now) c.check_sizes.ensures (program_seen a.program) c.in_err-check_sizes.was)

pub returns-in_err-check_sizes-clause-born : goal.returns-in_err-check_sizes-clause-born
returns-in_err-check_sizes-clause-born c =
    let a = c.args in
    not_accepted a.memory a.log (program_seen a.program) (row a.words.now a.marks.now)
    (creation_refused a.memory a.log (row a.words.now a.marks.now) c.check_sizes.ensures (program_seen a.program) c.in_err-check_sizes.was)

pub returns-in_err-check_segments-clause-value : goal.returns-in_err-check_segments-clause-value
returns-in_err-check_segments-clause-value c =
    let a = c.args in
    let e = err_from_is_err_and c.from_residual-in_err-check_segments.result c.from_residual-in_err-check_segments.ensures.1 in
    rw (e.1, e.2)
    (sym c.in_err-check_segments.was
    ∙ creation_tested a.memory a.log (row a.words.now a.marks.now) c.check_sizes.ensures (program_seen a.program) c.in_ok-check_sizes.was c.check_segments.ensures)

pub returns-in_err-check_segments-clause-born : goal.returns-in_err-check_segments-clause-born
returns-in_err-check_segments-clause-born c =
    let a = c.args in
    not_accepted a.memory a.log (program_seen a.program) (row a.words.now a.marks.now)
    (sym c.in_err-check_segments.was
    ∙ creation_tested a.memory a.log (row a.words.now a.marks.now) c.check_sizes.ensures (program_seen a.program) c.in_ok-check_sizes.was c.check_segments.ensures)

pub new_executor-requires-clause-shape : goal.new_executor-requires-clause-shape
new_executor-requires-clause-shape c =
    let a = c.args in
    (sizes_accepted a.memory a.log (row a.words.now a.marks.now) c.check_sizes.ensures c.in_ok-check_sizes.was).shape

pub new_executor-requires-clause-some_memory : goal.new_executor-requires-clause-some_memory
new_executor-requires-clause-some_memory c =
    let a = c.args in
    (sizes_accepted a.memory a.log (row a.words.now a.marks.now) c.check_sizes.ensures c.in_ok-check_sizes.was).some_memory

pub new_executor-requires-clause-loadable : goal.new_executor-requires-clause-loadable
new_executor-requires-clause-loadable c =
    let a = c.args in
    creation_fits a.memory a.log (row a.words.now a.marks.now) c.check_sizes.ensures (program_seen a.program) c.in_ok-check_sizes.was c.check_segments.ensures c.in_ok-check_segments.was

pub returns-clause-value : goal.returns-clause-value
returns-clause-value c =
    let a = c.args in
    sym c.in_ok-check_segments.was ∙ creation_tested a.memory a.log (row a.words.now a.marks.now) c.check_sizes.ensures (program_seen a.program) c.in_ok-check_sizes.was c.check_segments.ensures

pub returns-clause-born : goal.returns-clause-born
returns-clause-born c =
    let a = c.args in
    made_born a.memory a.log (program_seen a.program) (row a.words.now a.marks.now)
    (sizes_accepted a.memory a.log (row a.words.now a.marks.now) c.check_sizes.ensures c.in_ok-check_sizes.was) c.new_executor.ensures
