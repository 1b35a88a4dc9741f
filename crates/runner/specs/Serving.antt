-- A run whose write calls go to an output of so much room.
use Rattle.std.specs.Prelude.{cond, List, [], ◌++◌, ℕ, zero, suc, ◌+◌, ◌-◌, leb}
use Rattle.answers.specs.declared.error.ExecutorError.TheVariants.{OutputFull}
use Rattle.answers.specs.declared.outcome.Outcome.TheVariants.{Failed}
use Rattle.answers.specs.declared.outcome.Progress.TheVariants.{Running, Ended}
use Rattle.rows.specs.Rows.{Row, pc_of, depth_of, limit_of, set_limit}
use Rattle.calls.specs.Calls.{completed}
use Rattle.calls.specs.declared.step.Step.{Step}
use Rattle.calls.specs.declared.step.Step.TheVariants as step
use Rattle.machine.specs.Steps.{stepped}
use Rattle.machine.specs.Runs.{Finished, stops}
use Rattle.machine.specs.Writes.{bytes_from}

-- how a run ends, and the join of the bytes of its completed writes, in order
pub record Served : Type 0 where
  pub finished : Finished
  pub output : List ℕ

abbrev pub silent : Finished → Served
silent x = record { finished = x; output = [] }

abbrev pub preceded : List ℕ → Served → Served
preceded bytes x = record { finished = x.finished; output = bytes ++ x.output }

-- a write call puts its bytes out and is completed; 71 if it needs more output than is left, and then the call is not completed
unfoldable pub served_by : (ℕ → ℕ → Row → Served) → ℕ → ℕ → Step → ℕ → Row → Served
served_by more room pc step.Running used r = more room used r
served_by more room pc (step.Write buffer size) used r =
    cond (leb size room) (preceded (bytes_from size buffer r) (more (room - size) used (completed size r)))
    (silent (stops (Ended (Failed OutputFull)) pc used r))
served_by more room pc (step.Ended o) used r = silent (stops (Ended o) pc used r)

-- at most n instructions, room being what is left of the output
unfoldable pub served_for : ℕ → List ℕ → ℕ → ℕ → Row → Served
served_for zero tape room used r = silent (stops Running (pc_of r) used r)
served_for (suc n) tape room used r =
    let x = stepped tape used r in
    served_by (served_for n tape) room (pc_of r) x.stepped.step x.stepped.used x.row

-- a run adds step to the limit, then repeats
unfoldable pub served_of : ℕ → List ℕ → ℕ → ℕ → Row → Served
served_of step tape room used r = served_for (limit_of r + step - depth_of r) tape room used (set_limit (limit_of r + step) r)
