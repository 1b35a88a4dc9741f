-- A run whose write calls are put out keeps alike rows alike, and comes to the same in both, output and all.
use Rattle.std.proofs.Common.{Bool, true, false, cond, List, ◌++◌, ◌≡◌, refl, ap, ℕ, zero, suc, ◌+◌, ◌-◌, ◌/◌, leb}
use Rattle.answers.specs.declared.error.ExecutorError.TheVariants.{OutputFull}
use Rattle.answers.specs.declared.outcome.Outcome.TheVariants.{Failed}
use Rattle.answers.specs.declared.outcome.Progress.TheVariants.{Ended}
use Rattle.rows.specs.Rows.{Row, pc_of}
use Rattle.calls.specs.Calls.{completed}
use Rattle.calls.specs.declared.step.Step.{Step}
use Rattle.calls.specs.declared.step.Step.TheVariants as step
use Rattle.machine.specs.Runs.{stops}
use Rattle.machine.specs.Writes.{bytes_from}
use Rattle.invariants.proofs.Alike.{Same, Relation, Alike, same_slot}
use Rattle.invariants.proofs.AlikeReading.{Always}
use Rattle.invariants.proofs.AlikeCalls.{answer_alike}
use Rattle.invariants.proofs.AlikeSteps.{stepped_alike}
use Rattle.invariants.proofs.AlikeRuns.{AgreedRuns}
use Rattle.runner.specs.Serving.{Served, silent, preceded, served_by, served_for}

-- related rows that two runs left, with the same answer and the same output
pub record AgreedServed (R : Relation) (x y : Served) : Type 0 where
  pub runs : AgreedRuns R x.finished y.finished
  pub output : x.output ≡ y.output

same_bytes : {r s : Row} → Same r s → (size address : ℕ) → bytes_from size address r ≡ bytes_from size address s
unfolding bytes_from
same_bytes e zero address = refl
same_bytes e (suc size) address = rw (← same_slot e (32 + address / 8), ← same_bytes e size (address + 1))

module _ (w : ℕ) (tape tape' : List ℕ) (R : Relation) (alike : Alike w tape tape' R Always) where
  -- one instruction, if the rest does
  module _ (more more' : ℕ → ℕ → Row → Served) (each : (room u v : ℕ) (r s : Row) → R u r v s → AgreedServed R (more room u r) (more' room v s)) where
    by_alike : (room pc : ℕ) (t : Step) (u v : ℕ) (r s : Row) → R u r v s → AgreedServed R (served_by more room pc t u r) (served_by more' room pc t v s)
    unfolding served_by
    by_alike room pc step.Running u v r s h = each room u v r s h
    by_alike room pc (step.Write buffer size) u v r s h = rw (← same_bytes (alike.same h) size buffer) (go (leb size room))
      where
        put : (Bool) → (ℕ → ℕ → Row → Served) → ℕ → Row → Served
        put fits after used q =
            cond fits (preceded (bytes_from size buffer r) (after (room - size) used (completed size q))) (silent (stops (Ended (Failed OutputFull)) pc used q))

        go : (fits : Bool) → AgreedServed R (put fits more u r) (put fits more' v s)
        go true =
            let a = each (room - size) u v (completed size r) (completed size s) (answer_alike w tape tape' R Always alike size h) in
            record { runs = a.runs; output = ap (λ (out : List ℕ). bytes_from size buffer r ++ out) a.output }
        go false = record { runs = record { rows = h; progress = refl; pc = refl }; output = refl }
    by_alike room pc (step.Ended o) u v r s h = record { runs = record { rows = h; progress = refl; pc = refl }; output = refl }

  pub served_for_alike : (n room u v : ℕ) (r s : Row) → R u r v s → AgreedServed R (served_for n tape room u r) (served_for n tape' room v s)
  unfolding served_for
  served_for_alike zero room u v r s h = record { runs = record { rows = h; progress = refl; pc = (alike.same h).pc }; output = refl }
  served_for_alike (suc n) room u v r s h =
      let a = stepped_alike w tape tape' R Always alike u v r s h tt in
      rw (← (alike.same h).pc, ← a.step)
      (by_alike (served_for n tape) (served_for n tape') (λ q u v r s. served_for_alike n q u v r s) room (pc_of r) _ _ _ _ _ a.rows)
