-- A run whose write calls go to an output leaves the word `born` as it is, and the limit that it set.
use Rattle.std.proofs.Common.{Bool, true, false, cond, List, ◌≡◌, refl, ap, ◌∙◌, ℕ, zero, suc, ◌+◌, ◌-◌, ◌<◌, leb, arith, length, get_or-set_same, get_or-set_other}
use Rattle.answers.specs.declared.error.ExecutorError.TheVariants.{OutputFull}
use Rattle.answers.specs.declared.outcome.Outcome.TheVariants.{Failed}
use Rattle.answers.specs.declared.outcome.Progress.TheVariants.{Ended}
use Rattle.rows.specs.Rows.{Row, pc_of, depth_of, limit_of, born_of, set_limit}
use Rattle.calls.specs.Calls.{completed}
use Rattle.calls.specs.declared.step.Step.{Step}
use Rattle.calls.specs.declared.step.Step.TheVariants as step
use Rattle.calls.proofs.Kept.{completed_born, completed_limit}
use Rattle.machine.specs.Steps.{stepped}
use Rattle.machine.specs.Runs.{stops}
use Rattle.machine.specs.Writes.{bytes_from}
use Rattle.machine.proofs.Kept.{stepped_born, stepped_limit}
use Rattle.runner.specs.Serving.{Served, silent, preceded, served_by, served_for, served_of}
use Rattle.runner.specs.Entry.{Left, left_by}

-- f is what every instruction keeps, and the completion of a write call
module _ (f : Row → ℕ) (completing : (size : ℕ) (r : Row) → f (completed size r) ≡ f r)
    (stepping : (tape : List ℕ) (used : ℕ) (r : Row) → f (stepped tape used r).row ≡ f r) where
  -- one instruction, if the rest does
  module _ (more : ℕ → ℕ → Row → Served) (each : (room used : ℕ) (r : Row) → f (more room used r).finished.row ≡ f r) where
    by_kept : (room pc : ℕ) (t : Step) (used : ℕ) (r : Row) → f (served_by more room pc t used r).finished.row ≡ f r
    unfolding served_by
    by_kept room pc step.Running used r = each room used r
    by_kept room pc (step.Write buffer size) used r = go (leb size room)
      where
        go : (fits : Bool)
            → f (cond fits (preceded (bytes_from size buffer r) (more (room - size) used (completed size r)))
            (silent (stops (Ended (Failed OutputFull)) pc used r))).finished.row ≡ f r
        go true = each (room - size) used (completed size r) ∙ completing size r
        go false = refl
    by_kept room pc (step.Ended o) used r = refl

  served_for_kept : (n : ℕ) (tape : List ℕ) (room used : ℕ) (r : Row) → f (served_for n tape room used r).finished.row ≡ f r
  unfolding served_for
  served_for_kept zero tape room used r = refl
  served_for_kept (suc n) tape room used r =
      let x = stepped tape used r in
      by_kept (served_for n tape) (served_for_kept n tape) room (pc_of r) x.stepped.step x.stepped.used x.row ∙ stepping tape used r

  served_kept : (step : ℕ) (tape : List ℕ) (room used : ℕ) (r : Row)
      → f (served_of step tape room used r).finished.row ≡ f (set_limit (limit_of r + step) r)
  unfolding served_of
  served_kept step tape room used r = served_for_kept (limit_of r + step - depth_of r) tape room used (set_limit (limit_of r + step) r)

pub served_limit : (step : ℕ) (tape : List ℕ) (room used : ℕ) (r : Row) → 3 < length r.words
    → limit_of (served_of step tape room used r).finished.row ≡ limit_of r + step
served_limit step tape room used r long =
    served_kept limit_of completed_limit stepped_limit step tape room used r ∙ get_or-set_same r.words 3 (limit_of r + step) 0 long

-- what a call leaves that serves a row
pub served_born : (step : ℕ) (tape : List ℕ) (room used : ℕ) (r : Row) (output : List ℕ) {x : Left}
    → x ≡ left_by (served_of step tape room used r) output → born_of x.row ≡ born_of r
served_born step tape room used r output e =
    ap (λ (x : Left). born_of x.row) e
    ∙ served_kept born_of completed_born stepped_born step tape room used r
    ∙ get_or-set_other r.words 3 5 (limit_of r + step) 0 (λ e. omega arith)
