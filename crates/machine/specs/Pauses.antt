-- A run that halts at each write call, so that whoever runs it can take the bytes ("Run and fetch" in document 01, up to a write).
use Rattle.std.specs.Prelude.{List, ℕ, zero, suc, ◌+◌, ◌-◌}
use Rattle.rows.specs.Rows.{Row, row, pc_of, depth_of, limit_of, set_limit}
use Rattle.calls.specs.declared.step.Step.{Step}
use Rattle.calls.specs.declared.step.Step.TheVariants as step
use Rattle.machine.specs.Steps.{stepped}
use Rattle.machine.specs.declared.run.Paused.{Paused}

-- the row that such a run leaves, and at what it halted
pub record Halted : Type 0 where
  pub row : Row
  pub paused : Paused

abbrev pub halted_as : List ℕ → List ℕ → Paused → Halted
halted_as words marks paused = record { row = row words marks; paused = paused }

abbrev pub pause_of : Step → ℕ → ℕ → Paused
pause_of s pc used = record { step = s; pc = pc; used = used }

abbrev pub halts : Step → ℕ → ℕ → Row → Halted
halts s pc used r = record { row = r; paused = pause_of s pc used }

-- the run goes on, or halts with the pc before the instruction that it halts at
unfoldable pub unless_running : (ℕ → Row → Halted) → ℕ → Step → ℕ → Row → Halted
unless_running more pc step.Running used r = more used r
unless_running more pc (step.Write buffer size) used r = halts (step.Write buffer size) pc used r
unless_running more pc (step.Ended o) used r = halts (step.Ended o) pc used r

-- at most n instructions; at the limit the run halts with the row's pc
unfoldable pub paused_for : ℕ → List ℕ → ℕ → Row → Halted
paused_for zero tape used r = halts step.Running (pc_of r) used r
paused_for (suc n) tape used r =
    let x = stepped tape used r in
    unless_running (paused_for n tape) (pc_of r) x.stepped.step x.stepped.used x.row

-- a run adds step to the limit, then repeats
unfoldable pub paused_of : ℕ → List ℕ → ℕ → Row → Halted
paused_of step tape used r = paused_for (limit_of r + step - depth_of r) tape used (set_limit (limit_of r + step) r)
