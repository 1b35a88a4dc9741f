-- The limit of a run.
use Rattle.std.proofs.Common.{List, ◌≡◌, refl, sym, ◌∙◌, ℕ, zero, suc, ◌+◌, ◌-◌, ◌≤◌, ◌<◌, arith, length, drop, length-set, get_or-set_same, get_or-set_other}
use Rattle.answers.specs.declared.outcome.Progress.{Progress}
use Rattle.answers.specs.declared.outcome.Progress.TheVariants.{Running, Ended}
use Rattle.rows.specs.Rows.{Row, Shape, memory_words, pc_of, depth_of, limit_of, set_limit}
use Rattle.machine.specs.Steps.{stepped, advanced}
use Rattle.machine.specs.Runs.{Finished, continued, run_for, run_of}
use Rattle.machine.proofs.Kept.{advanced_words, advanced_depth, advanced_limit}
use Rattle.invariants.proofs.Runs.{run_keeps}
use Rattle.invariants.proofs.AlikeReading.{Always, drawing_alike}
use Rattle.invariants.proofs.AlikeResumed.{Resumed, resumed}
use Rattle.invariants.proofs.AlikeSteps.{stepped_alike, advanced_alike}

-- a run leaves the limit that it set
pub run_limit : (step : ℕ) (tape : List ℕ) (used : ℕ) (r : Row) → Shape r.words r.marks → limit_of (run_of step tape used r).row ≡ limit_of r + step
run_limit step tape used r h =
    run_keeps (λ s. limit_of s ≡ limit_of r + step) tape (λ u s k. advanced_limit tape u s ∙ k) step used r
    (get_or-set_same r.words 3 (limit_of r + step) 0 (omega arith))

-- Running, where it is a run's answer, is document 01's 22. That no instruction ends with 22 holds by type: Ended takes an outcome, and none is 22.
-- d is the depth of a run that goes on to its end
module _ (d : ℕ) (more : ℕ → Row → Finished) where
  continued_depth : (pc : ℕ) (p : Progress) (used : ℕ) (r : Row) → ((more used r).ran.progress ≡ Running → depth_of (more used r).row ≡ d) → (continued more pc p used r).ran.progress ≡ Running → depth_of (continued more pc p used r).row ≡ d
  unfolding continued
  continued_depth pc Running used r h e = h e
  continued_depth pc (Ended o) used r h e = cc

-- n instructions that do not end the run are n in depth
pub running_depth : (n : ℕ) (tape : List ℕ) (used : ℕ) (r : Row) → 2 < length r.words → (run_for n tape used r).ran.progress ≡ Running → depth_of (run_for n tape used r).row ≡ depth_of r + n
unfolding run_for
running_depth zero tape used r h e = omega arith
running_depth (suc n) tape used r h e =
    let x = advanced tape used r in
    let l = advanced_words tape used r in
    let k = advanced_depth tape used r h in
    continued_depth (depth_of r + suc n) (run_for n tape) _ x.moved.progress x.moved.used x.row
    (λ p. running_depth n tape x.moved.used x.row (omega arith) p ∙ omega arith)
    e

-- a run does not lower the depth, and raises it by at most its instructions
module _ (d : ℕ) (n : ℕ) (more : ℕ → Row → Finished) where
  continued_between : (pc : ℕ) (p : Progress) (used : ℕ) (r : Row) → depth_of r ≡ d + 1
      → (depth_of r ≤ depth_of (more used r).row) × (depth_of (more used r).row ≤ depth_of r + n)
      → (d ≤ depth_of (continued more pc p used r).row) × (depth_of (continued more pc p used r).row ≤ d + suc n)
  unfolding continued
  continued_between pc Running used r e h = (omega (arith, h.0), omega (arith, h.1))
  continued_between pc (Ended o) used r e h = (omega arith, omega arith)

run_for_between : (n : ℕ) (tape : List ℕ) (used : ℕ) (r : Row) → 2 < length r.words
    → (depth_of r ≤ depth_of (run_for n tape used r).row) × (depth_of (run_for n tape used r).row ≤ depth_of r + n)
unfolding run_for
run_for_between zero tape used r h = (omega arith, omega arith)
run_for_between (suc n) tape used r h =
    let x = advanced tape used r in
    let l = advanced_words tape used r in
    continued_between (depth_of r) n (run_for n tape) (pc_of r) x.moved.progress x.moved.used x.row (advanced_depth tape used r h)
    (run_for_between n tape x.moved.used x.row (omega arith))

pub run_between : (step : ℕ) (tape : List ℕ) (used : ℕ) (r : Row) → Shape r.words r.marks → depth_of r ≤ limit_of r + step
    → (depth_of r ≤ depth_of (run_of step tape used r).row) × (depth_of (run_of step tape used r).row ≤ limit_of r + step)
unfolding run_of
run_between step tape used r h k =
    let l = length-set r.words 3 (limit_of r + step) in
    let d = get_or-set_other r.words 3 2 (limit_of r + step) 0 (λ e. omega arith) in
    let b = run_for_between (limit_of r + step - depth_of r) tape used (set_limit (limit_of r + step) r) (omega arith) in
    (omega (arith, b.0), omega (arith, b.1))

-- a run that is still running is at its limit
pub running_at_limit : (step : ℕ) (tape : List ℕ) (used : ℕ) (r : Row) → Shape r.words r.marks → depth_of r ≤ limit_of r + step → (run_of step tape used r).ran.progress ≡ Running → depth_of (run_of step tape used r).row ≡ limit_of (run_of step tape used r).row
unfolding run_of
running_at_limit step tape used r h k e =
    let l = length-set r.words 3 (limit_of r + step) in
    let d = get_or-set_other r.words 3 2 (limit_of r + step) 0 (λ e. omega arith) in
    running_depth (limit_of r + step - depth_of r) tape used (set_limit (limit_of r + step) r) (omega arith) e
    ∙ omega arith
    ∙ sym (run_limit step tape used r h)

-- with another limit an instruction comes to the same, and does the same to the rest of the row: of a tape of which nothing is used before, all is left
pub stepped_limit : (tape : List ℕ) (used x : ℕ) (r : Row) → stepped tape used (set_limit x r) ≡ record { row = set_limit x (stepped tape used r).row; stepped = (stepped tape used r).stepped }
stepped_limit tape used x r =
    let w = memory_words r in
    let alike = drawing_alike w tape (drop 0 tape) (Resumed 0 tape x w) (resumed 0 tape x w) in
    let b = stepped_alike w tape (drop 0 tape) (Resumed 0 tape x w) Always alike used used r (set_limit x r) (record { memory = refl; used = omega arith; other = refl }) tt in
    let u : (stepped tape used (set_limit x r)).stepped.used ≡ (stepped tape used r).stepped.used = omega (arith, b.rows.used) in
    λ i. record { row = b.rows.other i; stepped = record { step = sym b.step i; used = u i } }

pub advanced_set_limit : (tape : List ℕ) (used x : ℕ) (r : Row) → advanced tape used (set_limit x r) ≡ record { row = set_limit x (advanced tape used r).row; moved = (advanced tape used r).moved }
advanced_set_limit tape used x r =
    let w = memory_words r in
    let alike = drawing_alike w tape (drop 0 tape) (Resumed 0 tape x w) (resumed 0 tape x w) in
    let b = advanced_alike w tape (drop 0 tape) (Resumed 0 tape x w) Always alike used used r (set_limit x r) (record { memory = refl; used = omega arith; other = refl }) tt in
    let u : (advanced tape used (set_limit x r)).moved.used ≡ (advanced tape used r).moved.used = omega (arith, b.rows.used) in
    λ i. record { row = b.rows.other i; moved = record { progress = sym b.progress i; used = u i } }
