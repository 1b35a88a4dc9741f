use Rattle.std.proofs.Common.{sym, ◌∙◌, ◌/◌, [], ◌∷◌, arith}
use Rattle.std.proofs.lemmas.Result.{err_from_is_err_and}
use Rattle.checks.proofs.Passed.{memory_size_passed}
use Rattle.checks.proofs.Tests.{all_pass, then_others, still_refused}
use Rattle.tables.specs.Lent.{table_test}
use Rattle.search.specs.Entry.{option_tests}
use Rattle.search.proofs.by_table.check_table_options.Goals as goal

pub returns-in_err-check_options : goal.returns-in_err-check_options
returns-in_err-check_options c =
    let a = c.args in
    let tests = option_tests a.options a.log a.words a.marks in
    let others = table_test (a.options.memory_size / 8) a.table ∷ [] in
    let e = err_from_is_err_and c.from_residual.result c.from_residual.ensures.1 in
    rw (e.1, e.2) (sym (still_refused tests c.check_options.ensures others c.in_err-check_options.was))

pub check_table-requires : goal.check_table-requires
check_table-requires c =
    let a = c.args in
    let passed = all_pass (option_tests a.options a.log a.words a.marks) c.check_options.ensures c.in_ok-check_options.was in
    omega (arith, (memory_size_passed a.options.memory_size passed.0).2)

pub returns : goal.returns
returns c =
    let a = c.args in
    let tests = option_tests a.options a.log a.words a.marks in
    let others = table_test (a.options.memory_size / 8) a.table ∷ [] in
    c.check_table.ensures ∙ sym (then_others tests c.check_options.ensures others c.in_ok-check_options.was)
