-- What holds of a row and is kept by every instruction holds of the row that a run leaves.
use Rattle.std.proofs.Common.{List, ℕ, zero, suc, ◌+◌, ◌-◌}
use Rattle.answers.specs.declared.outcome.Progress.{Progress}
use Rattle.answers.specs.declared.outcome.Progress.TheVariants.{Running, Ended}
use Rattle.rows.specs.Rows.{Row, depth_of, limit_of, set_limit}
use Rattle.machine.specs.Steps.{advanced}
use Rattle.machine.specs.Runs.{Finished, continued, run_for, run_of}

module _ (P : Row → Type 0) (tape : List ℕ) (each : (used : ℕ) (r : Row) → P r → P (advanced tape used r).row) where
  continued_keeps : (more : ℕ → Row → Finished) → ((used : ℕ) (r : Row) → P r → P (more used r).row) → (pc : ℕ) (p : Progress) (used : ℕ) (r : Row) → P r → P (continued more pc p used r).row
  unfolding continued
  continued_keeps more h pc Running used r k = h used r k
  continued_keeps more h pc (Ended o) used r k = k

  pub run_for_keeps : (n used : ℕ) (r : Row) → P r → P (run_for n tape used r).row
  unfolding run_for
  run_for_keeps zero used r k = k
  run_for_keeps (suc n) used r k = continued_keeps (run_for n tape) (λ u s. run_for_keeps n u s) _ _ _ _ (each used r k)

  -- a run first sets the limit
  pub run_keeps : (step used : ℕ) (r : Row) → P (set_limit (limit_of r + step) r) → P (run_of step tape used r).row
  unfolding run_of
  run_keeps step used r k = run_for_keeps (limit_of r + step - depth_of r) used (set_limit (limit_of r + step) r) k
