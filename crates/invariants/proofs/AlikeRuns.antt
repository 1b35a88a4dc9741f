-- A run keeps alike rows alike, and comes to the same in both.
use Rattle.std.proofs.Common.{List, ◌≡◌, refl, ℕ, zero, suc}
use Rattle.answers.specs.declared.outcome.Progress.{Progress}
use Rattle.answers.specs.declared.outcome.Progress.TheVariants.{Running, Ended}
use Rattle.rows.specs.Rows.{Row, pc_of}
use Rattle.machine.specs.Runs.{Finished, continued, run_for}
use Rattle.invariants.proofs.Alike.{Relation, Alike}
use Rattle.invariants.proofs.AlikeReading.{Always}
use Rattle.invariants.proofs.AlikeSteps.{advanced_alike}

-- related rows that two runs left, with the same progress and pc
pub record AgreedRuns (R : Relation) (x y : Finished) : Type 0 where
  pub rows : R x.ran.used x.row y.ran.used y.row
  pub progress : x.ran.progress ≡ y.ran.progress
  pub pc : x.ran.pc ≡ y.ran.pc

module _ (w : ℕ) (tape tape' : List ℕ) (R : Relation) (alike : Alike w tape tape' R Always) where
  continued_alike : (more more' : ℕ → Row → Finished) → ((u v : ℕ) (r s : Row) → R u r v s → AgreedRuns R (more u r) (more' v s))
      → (pc : ℕ) (p : Progress) (u v : ℕ) (r s : Row) → R u r v s → AgreedRuns R (continued more pc p u r) (continued more' pc p v s)
  unfolding continued
  continued_alike more more' each pc Running u v r s h = each u v r s h
  continued_alike more more' each pc (Ended o) u v r s h = record { rows = h; progress = refl; pc = refl }

  pub run_for_alike : (n u v : ℕ) (r s : Row) → R u r v s → AgreedRuns R (run_for n tape u r) (run_for n tape' v s)
  unfolding run_for
  run_for_alike zero u v r s h = record { rows = h; progress = refl; pc = (alike.same h).pc }
  run_for_alike (suc n) u v r s h =
      let a = advanced_alike w tape tape' R Always alike u v r s h tt in
      rw (← (alike.same h).pc, ← a.progress)
      (continued_alike (run_for n tape) (run_for n tape') (λ u v p q. run_for_alike n u v p q) (pc_of r) _ _ _ _ _ a.rows)
