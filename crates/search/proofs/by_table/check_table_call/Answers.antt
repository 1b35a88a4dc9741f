use Rattle.std.proofs.Common.{sym, ◌∙◌, ◌/◌}
use Rattle.std.proofs.lemmas.Result.{err_from_is_err_and}
use Rattle.loader.specs.Lent.{program_seen}
use Rattle.checks.specs.Segments.{segment_tests}
use Rattle.checks.proofs.Tests.{then_others, still_refused}
use Rattle.search.specs.ByTable.{table_option_tests}
use Rattle.search.proofs.by_table.check_table_call.Goals as goal

pub returns-in_err-check_table_options : goal.returns-in_err-check_table_options
returns-in_err-check_table_options c =
    let a = c.args in
    let tests = table_option_tests a.options a.log a.words a.marks a.table in
    let others = segment_tests (a.options.memory_size / 8) (program_seen a.program) in
    let e = err_from_is_err_and c.from_residual.result c.from_residual.ensures.1 in
    rw (e.1, e.2) (sym (still_refused tests c.check_table_options.ensures others c.in_err-check_table_options.was))

pub returns : goal.returns
returns c =
    let a = c.args in
    let tests = table_option_tests a.options a.log a.words a.marks a.table in
    let others = segment_tests (a.options.memory_size / 8) (program_seen a.program) in
    c.check_segments.ensures ∙ sym (then_others tests c.check_table_options.ensures others c.in_ok-check_table_options.was)
