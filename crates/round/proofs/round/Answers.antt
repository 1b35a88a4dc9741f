use Rattle.std.proofs.Common.{arith}
use Rattle.std.proofs.lemmas.Result.{err_from_is_err_and}
use Rattle.rounds.specs.Handed.{call_of, start_of}
use Rattle.round.proofs.Filling.{short_round, full_round, filled_limits}
use Rattle.round.proofs.round.Goals as goal

pub run_and_keep-requires : goal.run_and_keep-requires
run_and_keep-requires c =
    let a = c.args in
    let s = a.store.now in
    let e = c.create_missing_executors.ensures.filled in
    record {
      table = rw c.create_missing_executors.ensures.same_store.same_layout c.requires.table;
      limits_allow =
          filled_limits (call_of s.layout a.call) a.number (start_of s a.start) e.1 e.0 c.in_ok-used.was s.fit.sized (omega arith) c.requires.limits_allow;
    }

pub returns-in_err-used-clause-result_after : goal.returns-in_err-used-clause-result_after
returns-in_err-used-clause-result_after c =
    let a = c.args in
    let s = a.store.now in
    let e = c.create_missing_executors.ensures.filled in
    let p = err_from_is_err_and c.from_residual.result c.from_residual.ensures.1 in
    rw (p.1, p.2) (short_round (call_of s.layout a.call) a.number (start_of s a.start) e.1 e.0 c.in_err-used.was)

pub returns-clause-result_after : goal.returns-clause-result_after
returns-clause-result_after c =
    let a = c.args in
    let s = a.store.now in
    let e = c.create_missing_executors.ensures.filled in
    full_round (call_of s.layout a.call) a.number (start_of s a.start) e.1 e.0 c.in_ok-used.was c.run_and_keep.ensures.result_after
