-- A stepping stone between contracts: the one loop of a run, told whether it hands its write calls out or completes them.
use Rattle.std.specs.Prelude.{Bool, cond, List, ℕ, zero, suc}
use Rattle.answers.specs.declared.outcome.Progress.{Progress}
use Rattle.answers.specs.declared.outcome.Progress.TheVariants.{Running, Ended}
use Rattle.rows.specs.Rows.{Row, pc_of}
use Rattle.calls.specs.Calls.{Called, step_to, completed}
use Rattle.calls.specs.declared.step.Step.{Step}
use Rattle.calls.specs.declared.step.Step.TheVariants as step
use Rattle.machine.specs.Steps.{stepped}
use Rattle.machine.specs.Pauses.{Halted, halts, unless_running}

-- a write call is handed out, or completed at once
unfoldable pub handed : Bool → Step → ℕ → Row → Called
handed out step.Running used r = step_to step.Running used r
handed out (step.Write buffer size) used r = cond out (step_to (step.Write buffer size) used r) (step_to step.Running used (completed size r))
handed out (step.Ended o) used r = step_to (step.Ended o) used r

abbrev pub handed_on : Bool → Called → Called
handed_on out x = handed out x.stepped.step x.stepped.used x.row

unfoldable pub stepped_by : Bool → List ℕ → ℕ → Row → Called
stepped_by out tape used r = handed_on out (stepped tape used r)

-- at most n instructions
unfoldable pub halted_for : Bool → ℕ → List ℕ → ℕ → Row → Halted
halted_for out zero tape used r = halts step.Running (pc_of r) used r
halted_for out (suc n) tape used r =
    let x = stepped_by out tape used r in
    unless_running (halted_for out n tape) (pc_of r) x.stepped.step x.stepped.used x.row

-- of a run that completed its write calls
abbrev pub progress_of : Step → Progress
progress_of step.Running = Running
progress_of (step.Write buffer size) = Running
progress_of (step.Ended o) = Ended o
