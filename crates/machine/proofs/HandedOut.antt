-- A write call that is handed out lies in memory: its check, carried through the step and the run.
use Rattle.std.proofs.Common.{Bool, true, false, cond, List, ◌≡◌, sym, subst, ℕ, zero, suc, ◌+◌, ◌*◌, ◌-◌, ◌/◌, ◌≤◌, Option, Some, None, Result, Ok, Err}
use Rattle.riscu.specs.Decoding.{decoded}
use Rattle.riscu.specs.declared.instruction.Instruction.{Instruction}
use Rattle.answers.specs.declared.error.ExecutorError.{ExecutorError}
use Rattle.answers.specs.declared.outcome.Outcome.{Outcome}
use Rattle.answers.specs.declared.outcome.Progress.{Progress}
use Rattle.answers.specs.declared.outcome.Progress.TheVariants as progress
use Rattle.values.specs.Values.{register_count}
use Rattle.rows.specs.Rows.{Row, pc_of, memory_words, limit_of, set_limit, slot_at}
use Rattle.execution.specs.Execution.{effect_in, applied, next_of}
use Rattle.execution.specs.declared.Next.{Next}
use Rattle.execution.specs.declared.Next.TheVariants as next
use Rattle.execution.proofs.Kept.{applied_marks}
use Rattle.calls.specs.Calls.{a0, a7, brk_progress, read, write_reasons, transfer_of, all_concrete, write_from, write, step_of, call_of, id_of, system}
use Rattle.calls.specs.InMemory.{InMemory}
use Rattle.calls.specs.declared.number.SyscallId.{SyscallId}
use Rattle.calls.specs.declared.number.SyscallId.TheVariants as call
use Rattle.calls.specs.declared.step.Step.{Step}
use Rattle.calls.specs.declared.step.Step.TheVariants.{Running, Write, Ended}
use Rattle.calls.specs.declared.transfer.Buffer.{Buffer}
use Rattle.calls.proofs.Ranges.{transfer_in_memory}
use Rattle.machine.specs.Steps.{fetched, followed, executed, interpreted, deeper, stepped}
use Rattle.machine.specs.Pauses.{Halted, unless_running, paused_for, paused_of}
use Rattle.machine.specs.HandedOut.{HandedOut}
use Rattle.machine.proofs.Kept.{stepped_marks}

-- ---- by a call
checked : (w buffer size : ℕ) (o : Outcome) → buffer + size ≤ 8 * w → (concrete : Bool) → HandedOut w (cond concrete (Write buffer size) (Ended o))
checked w buffer size o h true = h
checked w buffer size o h false = tt

from_transfer : (w : ℕ) (t : Result Buffer Outcome) (r : Row) → InMemory w t → HandedOut w (write_from t r)
unfolding write_from
from_transfer w (Ok b) r h = checked w b.address b.size _ h (all_concrete _ (b.address / 8) r)
from_transfer w (Err o) r h = tt

by_progress : (w : ℕ) (p : Progress) → HandedOut w (step_of p)
by_progress w progress.Running = tt
by_progress w (progress.Ended o) = tt

by_call : (id : SyscallId) (tape : List ℕ) (used : ℕ) (r : Row) → HandedOut (memory_words r) (call_of id tape used r).stepped.step
unfolding call_of write
by_call call.Brk tape used r = by_progress _ (brk_progress (slot_at r a0))
by_call call.Read tape used r = by_progress _ (read tape used r).moved.progress
by_call call.Write tape used r = from_transfer _ (transfer_of 1 write_reasons (memory_words r) r) r (transfer_in_memory 1 write_reasons (memory_words r) r)
by_call call.Exit tape used r = tt
by_call call.Unknown tape used r = tt

by_system : (tape : List ℕ) (used : ℕ) (r : Row) → HandedOut (memory_words r) (system tape used r).stepped.step
unfolding system
by_system tape used r = by_call (id_of (slot_at r a7)) tape used r

-- ---- by a step
by_next : (n : Next) (tape : List ℕ) (used : ℕ) (r : Row) → HandedOut (memory_words r) (followed n tape used r).stepped.step
unfolding followed
by_next next.Instruction tape used r = tt
by_next next.Call tape used r = by_system tape used r
by_next (next.End o) tape used r = tt

by_execution : (d : Option Instruction) (tape : List ℕ) (used : ℕ) (r : Row) → HandedOut (memory_words r) (executed d tape used r).stepped.step
unfolding executed
by_execution (Some i) tape used r =
    let e = effect_in i r in
    subst (λ (marks : ℕ). HandedOut (marks - register_count) (followed (next_of e) tape used (applied e r)).stepped.step) (applied_marks e r)
    (by_next (next_of e) tape used (applied e r))
by_execution None tape used r = tt

by_fetch : (f : Result ℕ ExecutorError) (tape : List ℕ) (used : ℕ) (r : Row) → HandedOut (memory_words r) (interpreted f tape used r).stepped.step
unfolding interpreted
by_fetch (Ok x) tape used r = by_execution (decoded x) tape used r
by_fetch (Err e) tape used r = tt

by_step : (tape : List ℕ) (used : ℕ) (r : Row) → HandedOut (memory_words r) (stepped tape used r).stepped.step
unfolding stepped
by_step tape used r = by_fetch (fetched (deeper r)) tape used (deeper r)

-- ---- by a run
by_turn : (w : ℕ) (more : ℕ → Row → Halted) (pc : ℕ) (s : Step) (used : ℕ) (r : Row) →
    HandedOut w s → HandedOut w (more used r).paused.step → HandedOut w (unless_running more pc s used r).paused.step
unfolding unless_running
by_turn w more pc Running used r now later = later
by_turn w more pc (Write buffer size) used r now later = now
by_turn w more pc (Ended o) used r now later = tt

by_turns : (n : ℕ) (tape : List ℕ) (used : ℕ) (r : Row) → HandedOut (memory_words r) (paused_for n tape used r).paused.step
unfolding paused_for
by_turns zero tape used r = tt
by_turns (suc n) tape used r =
    let x = stepped tape used r in
    by_turn (memory_words r) (paused_for n tape) (pc_of r) x.stepped.step x.stepped.used x.row (by_step tape used r)
    (subst (λ (marks : ℕ). HandedOut (marks - register_count) (paused_for n tape x.stepped.used x.row).paused.step) (stepped_marks tape used r)
    (by_turns n tape x.stepped.used x.row))

pub handed_out : (step : ℕ) (tape : List ℕ) (used : ℕ) (r : Row) (x : Halted) → x ≡ paused_of step tape used r → HandedOut (memory_words r) x.paused.step
unfolding paused_of
handed_out step tape used r x e =
    subst (λ (y : Halted). HandedOut (memory_words r) y.paused.step) (sym e) (by_turns _ tape used (set_limit (limit_of r + step) r))
