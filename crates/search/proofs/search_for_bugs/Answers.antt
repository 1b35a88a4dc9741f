use Rattle.std.proofs.lemmas.Result.{err_from_is_err_and}
use Rattle.loader.specs.Lent.{program_seen}
use Rattle.search.specs.Entry.{search_checked}
use Rattle.search.proofs.Accepted.{allowed, allowed_demand, allowed_ages}
use Rattle.search.proofs.Leaving.{left_refused, lent_fit, callable, left_accepted}
use Rattle.search.proofs.search_for_bugs.Goals as goal

pub new-layout-requires : goal.new-layout-requires
new-layout-requires c =
    let a = c.args in
    let ok = allowed a.options a.log (program_seen a.program) a.words.now a.marks.now c.check_call.ensures c.in_ok-check_call.was in
    record { memory = ok.memory; log = ok.log_words }

pub search_lent-requires-clause-fit : goal.search_lent-requires-clause-fit
search_lent-requires-clause-fit c =
    let a = c.args in
    let ok = allowed a.options a.log (program_seen a.program) a.words.now a.marks.now c.check_call.ensures c.in_ok-check_call.was in
    lent_fit ok c.new-layout.ensures

pub search_lent-requires-clause-callable : goal.search_lent-requires-clause-callable
search_lent-requires-clause-callable c =
    let a = c.args in
    let ok = allowed a.options a.log (program_seen a.program) a.words.now a.marks.now c.check_call.ensures c.in_ok-check_call.was in
    callable ok c.new-layout.ensures a.tape.now

pub returns : goal.returns
unfolding search_checked
returns c =
    let a = c.args in
    let p = program_seen a.program in
    record {
      result_after =
          left_accepted a.options a.log p a.tape.now a.words.now a.marks.now
          c.check_call.ensures c.in_ok-check_call.was c.new-layout.ensures c.search_lent.ensures.left_after;
      demanded = allowed_demand a.options a.log p a.words.now a.marks.now a.tape.now;
      ages_told = allowed_ages a.options a.log p a.words.now a.marks.now a.tape.now;
    }

pub returns-in_err-check_call : goal.returns-in_err-check_call
unfolding search_checked
returns-in_err-check_call c =
    let a = c.args in
    let p = program_seen a.program in
    let e = err_from_is_err_and c.from_residual.result c.from_residual.ensures.1 in
    record {
      result_after =
          rw (e.1, e.2)
          (left_refused a.options a.log p a.tape.now a.words.now a.marks.now c.check_call.ensures _ c.in_err-check_call.was);
      demanded = allowed_demand a.options a.log p a.words.now a.marks.now a.tape.now;
      ages_told = allowed_ages a.options a.log p a.words.now a.marks.now a.tape.now;
    }
