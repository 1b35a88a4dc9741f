-- Unless its output is full, a run whose write calls are put out ends as the run that only completes them.
use Rattle.std.proofs.Common.{Bool, true, false, cond, Result, Ok, Err, List, ◌≡◌, refl, sym, ap, subst, ℕ, zero, suc, ◌+◌, ◌-◌, leb, length}
use Rattle.answers.specs.Numbers.{error_number, progress_number}
use Rattle.answers.specs.declared.error.ExecutorError.TheVariants.{OutputFull}
use Rattle.answers.specs.declared.outcome.Outcome.TheVariants.{Failed}
use Rattle.answers.specs.declared.outcome.Progress.{Progress}
use Rattle.answers.specs.declared.outcome.Progress.TheVariants.{Ended}
use Rattle.rows.specs.Rows.{Row, pc_of, depth_of, limit_of, set_limit}
use Rattle.calls.specs.Calls.{completed}
use Rattle.calls.specs.declared.step.Step.{Step}
use Rattle.calls.specs.declared.step.Step.TheVariants as step
use Rattle.machine.specs.Steps.{stepped, settled, advanced}
use Rattle.machine.specs.Runs.{Finished, stops, continued, run_for, run_of}
use Rattle.machine.specs.Writes.{bytes_from}
use Rattle.checks.specs.declared.refusal.Refusal.{Refusal}
use Rattle.executor.specs.Entries.{Answered, answered, run_answered}
use Rattle.runner.specs.Serving.{Served, silent, preceded, served_by, served_for, served_of}
use Rattle.runner.specs.Entry.{Left, served_entry, OneRun}

-- the output is not full
abbrev pub Unfull : Served → Type 0
Unfull x = x.finished.ran.progress ≡ Ended (Failed OutputFull) → ⊥

-- one instruction, if the rest is so
by_run : (more : ℕ → ℕ → Row → Served) (after : ℕ → Row → Finished)
    → ((room used : ℕ) (r : Row) → Unfull (more room used r) → (more room used r).finished ≡ after used r)
    → (room pc : ℕ) (s : Step) (used : ℕ) (r : Row) → Unfull (served_by more room pc s used r)
    → (served_by more room pc s used r).finished
    ≡ continued after pc (settled s used r).moved.progress (settled s used r).moved.used (settled s used r).row
unfolding served_by settled continued
by_run more after each room pc step.Running used r h = each room used r h
by_run more after each room pc (step.Write buffer size) used r h = go (leb size room) h
  where
    put : Bool → Served
    put fits =
        cond fits (preceded (bytes_from size buffer r) (more (room - size) used (completed size r)))
        (silent (stops (Ended (Failed OutputFull)) pc used r))

    go : (fits : Bool) → Unfull (put fits) → (put fits).finished ≡ after used (completed size r)
    go true k = each (room - size) used (completed size r) k
    go false k = absurd (k refl)
by_run more after each room pc (step.Ended o) used r h = refl

served_run : (n : ℕ) (tape : List ℕ) (room used : ℕ) (r : Row) → Unfull (served_for n tape room used r)
    → (served_for n tape room used r).finished ≡ run_for n tape used r
unfolding served_for run_for advanced
served_run zero tape room used r h = refl
served_run (suc n) tape room used r h =
    let x = stepped tape used r in
    by_run (served_for n tape) (run_for n tape) (served_run n tape) room (pc_of r) x.stepped.step x.stepped.used x.row h

-- an answer other than 71 is not that of a full output
numbered : (p : Progress) → (progress_number p ≡ error_number OutputFull → ⊥) → p ≡ Ended (Failed OutputFull) → ⊥
numbered p h e = h (ap progress_number e)

abbrev answered_by : Left → Answered
answered_by x = record { row = x.row; answer = x.printed.answer }

-- a served run that ends otherwise is the run
pub served_of_run : (step : ℕ) (tape : List ℕ) (room : ℕ) (r : Row) → Unfull (served_of step tape room 0 r)
    → (served_of step tape room 0 r).finished ≡ run_of step tape 0 r
unfolding served_of run_of
served_of_run step tape room r h = served_run (limit_of r + step - depth_of r) tape room 0 (set_limit (limit_of r + step) r) h

entry_run : (c : Result (Unit {0}) Refusal) (step : ℕ) (input : List ℕ) (r : Row) (output : List ℕ)
    → OneRun (run_answered c step input r) (answered_by (served_entry c step input r output))
unfolding served_entry run_answered
entry_run (Ok t) step input r output h =
    let x = (served_of step input (length output) 0 r).finished in
    ap (λ (x : Finished). answered x.row.words x.row.marks (Ok x.ran)) (served_of_run step input (length output) r (numbered x.ran.progress h))
entry_run (Err f) step input r output h = refl

-- so of what an entry leaves
pub is_one_run : (c : Result (Unit {0}) Refusal) (step : ℕ) (input : List ℕ) (r : Row) (output : List ℕ) {x : Left}
    → x ≡ served_entry c step input r output → OneRun (run_answered c step input r) (answered_by x)
is_one_run c step input r output e =
    subst (λ (x : Left). OneRun (run_answered c step input r) (answered_by x)) (sym e) (entry_run c step input r output)
