-- A run of an executor ("Run and fetch" in document 01), by recursion on what is left to the limit.
use Rattle.std.specs.Prelude.{List, ℕ, zero, suc, ◌+◌, ◌-◌}
use Rattle.answers.specs.declared.outcome.Progress.{Progress}
use Rattle.answers.specs.declared.outcome.Progress.TheVariants.{Running, Ended}
use Rattle.rows.specs.Rows.{Row, row, pc_of, depth_of, limit_of, set_limit}
use Rattle.machine.specs.Steps.{advanced}
use Rattle.machine.specs.declared.run.Ran.{Ran}

-- the row that a run leaves, and what it answers
pub record Finished : Type 0 where
  pub row : Row
  pub ran : Ran

abbrev pub finished_as : List ℕ → List ℕ → Ran → Finished
finished_as words marks ran = record { row = row words marks; ran = ran }

abbrev pub answer_of : Progress → ℕ → ℕ → Ran
answer_of p pc used = record { progress = p; pc = pc; used = used }

abbrev pub stops : Progress → ℕ → ℕ → Row → Finished
stops p pc used r = record { row = r; ran = answer_of p pc used }

-- the run goes on, or ends with the pc before the instruction that ended it
unfoldable pub continued : (ℕ → Row → Finished) → ℕ → Progress → ℕ → Row → Finished
continued more pc Running used r = more used r
continued more pc (Ended o) used r = stops (Ended o) pc used r

-- at most n instructions; at the limit the run answers 22 with the row's pc
unfoldable pub run_for : ℕ → List ℕ → ℕ → Row → Finished
run_for zero tape used r = stops Running (pc_of r) used r
run_for (suc n) tape used r =
    let x = advanced tape used r in
    continued (run_for n tape) (pc_of r) x.moved.progress x.moved.used x.row

-- a run adds step to the limit, then repeats
unfoldable pub run_of : ℕ → List ℕ → ℕ → Row → Finished
run_of step tape used r = run_for (limit_of r + step - depth_of r) tape used (set_limit (limit_of r + step) r)
