use Rattle.std.proofs.lemmas.Result.{err_from_is_err_and}
use Rattle.loader.specs.Lent.{program_seen}
use Rattle.search.specs.ByTable.{table_search_checked}
use Rattle.tables.proofs.Lending.{table_kept, table_cleared}
use Rattle.search.proofs.WithTable.{table_allowed, cleared_for, table_demand, table_ages}
use Rattle.search.proofs.Leaving.{left_refused, lent_fit, callable, left_accepted}
use Rattle.search.proofs.by_table.search_by_table.Goals as goal

pub new-layout-requires : goal.new-layout-requires
new-layout-requires c =
    let a = c.args in
    let p = program_seen a.program in
    let ok = table_allowed a.options a.log p a.words.now a.marks.now a.table.now c.check_table_call.ensures c.in_ok-check_table_call.was in
    record { memory = ok.memory; log = ok.log_words }

pub search_lent-requires : goal.search_lent-requires
search_lent-requires c =
    let a = c.args in
    let p = program_seen a.program in
    let e = c.check_table_call.ensures in
    let passed = c.in_ok-check_table_call.was in
    let is = c.new-layout.ensures in
    let ok = table_allowed a.options a.log p a.words.now a.marks.now a.table.now e passed in
    record {
      fit = lent_fit ok is;
      table = cleared_for a.options a.log p a.words.now a.marks.now a.table.now e passed is c.clear_table.ensures;
      callable = callable ok is a.tape.now;
    }

pub returns : goal.returns
unfolding table_search_checked
returns c =
    let a = c.args in
    let p = program_seen a.program in
    let e = c.check_table_call.ensures in
    let passed = c.in_ok-check_table_call.was in
    let lent = c.search_lent.ensures in
    record {
      result_after = left_accepted a.options a.log p a.tape.now a.words.now a.marks.now e passed c.new-layout.ensures lent.left_after;
      table_after = rw lent.same_table (table_cleared a.table.now e passed c.clear_table.ensures);
      demanded = table_demand a.options a.log p a.words.now a.marks.now a.table.now a.tape.now;
      ages_told = table_ages a.options a.log p a.words.now a.marks.now a.table.now a.tape.now;
    }

pub returns-in_err-check_table_call : goal.returns-in_err-check_table_call
unfolding table_search_checked
returns-in_err-check_table_call c =
    let a = c.args in
    let p = program_seen a.program in
    let e = c.check_table_call.ensures in
    let refused = c.in_err-check_table_call.was in
    let r = err_from_is_err_and c.from_residual.result c.from_residual.ensures.1 in
    record {
      result_after = rw (r.1, r.2) (left_refused a.options a.log p a.tape.now a.words.now a.marks.now e _ refused);
      table_after = table_kept a.table.now e _ refused;
      demanded = table_demand a.options a.log p a.words.now a.marks.now a.table.now a.tape.now;
      ages_told = table_ages a.options a.log p a.words.now a.marks.now a.table.now a.tape.now;
    }
