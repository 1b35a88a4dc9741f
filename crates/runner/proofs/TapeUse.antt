-- A call never takes more words than the input has: what is left of it is a part of it.
use Rattle.std.proofs.Common.{Result, Ok, Err, List, ◌≡◌, refl, ℕ, ◌+◌, ◌-◌, ◌≤◌, arith, length}
use Rattle.rows.specs.Rows.{Row, depth_of, limit_of, memory_words, set_limit}
use Rattle.checks.specs.declared.refusal.Refusal.{Refusal}
use Rattle.invariants.proofs.AlikeReading.{drawing_alike}
use Rattle.invariants.proofs.TapeUse.{Within, within_tape}
use Rattle.executor.specs.Entries.{run_answer}
use Rattle.runner.specs.Serving.{served_of}
use Rattle.runner.specs.Entry.{Left, served_entry}
use Rattle.runner.proofs.Alike.{served_for_alike}

served_used : (step : ℕ) (tape : List ℕ) (room used : ℕ) (r : Row) → used ≤ length tape → (served_of step tape room used r).finished.ran.used ≤ length tape
unfolding served_of
served_used step tape room used r h =
    let w = memory_words r in
    let s = set_limit (limit_of r + step) r in
    (served_for_alike w tape tape (Within tape w) (drawing_alike w tape tape (Within tape w) (within_tape tape w)) (limit_of r + step - depth_of r) room used used s s
    (record { memory = refl; one = refl; used = refl; within = h })).runs.rows.within

entry_used : (c : Result (Unit {0}) Refusal) (step : ℕ) (input : List ℕ) (r : Row) (output : List ℕ)
    → (run_answer (served_entry c step input r output).printed.answer).used ≤ length input
unfolding served_entry
entry_used (Ok t) step input r output = served_used step input (length output) 0 r (omega arith)
entry_used (Err f) step input r output = omega arith

pub input_used : (c : Result (Unit {0}) Refusal) (step : ℕ) (input : List ℕ) (r : Row) (output : List ℕ) {x : Left} → x ≡ served_entry c step input r output
    → (run_answer x.printed.answer).used ≤ length input
input_used c step input r output e = rw e (entry_used c step input r output)
