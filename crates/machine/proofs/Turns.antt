-- The turns of a run: what each leaves of `halted_for` is what the run still has to do.
use Rattle.std.proofs.Common.{Bool, ◌≡◌, refl, sym, ap, ◌∙◌, List, ℕ, suc, ◌+◌, ◌-◌, ◌≤◌, ◌<◌, sub-eq-zero_of_le, arith, length, Option, None, Ok, Err}
use Rattle.riscu.specs.Decoding.{decoded}
use Rattle.riscu.specs.declared.instruction.Instruction.{Instruction}
use Rattle.answers.specs.declared.error.ExecutorError.TheVariants.{InvalidInstructionEncoding}
use Rattle.answers.specs.declared.error.ExecutorError.{ExecutorError}
use Rattle.answers.specs.declared.outcome.Outcome.TheVariants.{Failed}
use Rattle.rows.specs.Rows.{Row, pc_of, depth_of}
use Rattle.calls.specs.Calls.{Called, step_to}
use Rattle.calls.specs.declared.step.Step.{Step}
use Rattle.calls.specs.declared.step.Step.TheVariants.{Running, Write, Ended}
use Rattle.machine.specs.Steps.{fetched, deeper, executed, interpreted, stepped}
use Rattle.machine.specs.Pauses.{halts, unless_running}
use Rattle.machine.specs.Handing.{handed, handed_on, stepped_by, halted_for}
use Rattle.machine.proofs.Kept.{stepped_by_depth}

-- at the limit
pub at_limit : (out : Bool) (limit : ℕ) (tape : List ℕ) (used : ℕ) (r : Row) → limit ≤ depth_of r → halts Running (pc_of r) used r ≡ halted_for out (limit - depth_of r) tape used r
unfolding halted_for
at_limit out limit tape used r h = rw (sub-eq-zero_of_le h)

-- an instruction before the limit
before_limit : (out : Bool) (limit : ℕ) (tape : List ℕ) (used : ℕ) (r : Row) → depth_of r < limit → let x = stepped_by out tape used r in
    halted_for out (limit - depth_of r) tape used r
    ≡ unless_running (halted_for out (limit - (depth_of r + 1)) tape) (pc_of r) x.stepped.step x.stepped.used x.row
unfolding halted_for
before_limit out limit tape used r h = rw (one_more limit (depth_of r) h)
  where
    one_more : (a b : ℕ) → b < a → a - b ≡ suc (a - (b + 1))
    one_more a b h = omega arith

-- x is what the instruction came to
module _ (out : Bool) (limit : ℕ) (tape : List ℕ) (used : ℕ) (r : Row) (x : Called) (h : depth_of r < limit) (e : x ≡ stepped_by out tape used r) where
  -- it goes on
  pub turned : 2 < length r.words → x.stepped.step ≡ Running → halted_for out (limit - depth_of x.row) tape x.stepped.used x.row ≡ halted_for out (limit - depth_of r) tape used r
  unfolding unless_running
  turned l p =
      ap (λ (d : ℕ). halted_for out (limit - d) tape x.stepped.used x.row) (ap (λ (y : Called). depth_of y.row) e ∙ stepped_by_depth out tape used r l)
      ∙ sym (before_limit out limit tape used r h ∙ rw (← e, p))

  -- it halts
  pub halted : (x.stepped.step ≡ Running → ⊥) → halts x.stepped.step (pc_of r) x.stepped.used x.row ≡ halted_for out (limit - depth_of r) tape used r
  unfolding unless_running
  halted p = sym (before_limit out limit tape used r h ∙ ap (λ (y : Called). unless_running (halted_for out (limit - (depth_of r + 1)) tape) (pc_of r) y.stepped.step y.stepped.used y.row) (sym e) ∙ by_step x.stepped.step p)
    where
      by_step : (s : Step) → (s ≡ Running → ⊥) →
          unless_running (halted_for out (limit - (depth_of r + 1)) tape) (pc_of r) s x.stepped.used x.row ≡ halts s (pc_of r) x.stepped.used x.row
      by_step Running q = absurd (q refl)
      by_step (Write buffer size) q = refl
      by_step (Ended o) q = refl

-- an instruction that was fetched and decoded
pub by_word : (out : Bool) (tape : List ℕ) (used : ℕ) (r after : Row) (word : ℕ) (d : Option Instruction) → Ok word ≡ fetched (deeper r) → d ≡ decoded word → after ≡ deeper r → handed_on out (executed d tape used after) ≡ stepped_by out tape used r
unfolding stepped_by stepped interpreted
by_word out tape used r after word d f e a = rw (a, e, ← f)

-- one that could not be decoded
pub by_invalid : (out : Bool) (tape : List ℕ) (used : ℕ) (r : Row) (word : ℕ) → Ok word ≡ fetched (deeper r) → None ≡ decoded word → step_to (Ended (Failed InvalidInstructionEncoding)) used (deeper r) ≡ stepped_by out tape used r
unfolding executed handed
by_invalid out tape used r word f e = by_word out tape used r (deeper r) word None f e refl

-- one that could not be fetched
pub by_refusal : (out : Bool) (tape : List ℕ) (used : ℕ) (r : Row) (error : ExecutorError) → Err error ≡ fetched (deeper r) → step_to (Ended (Failed error)) used (deeper r) ≡ stepped_by out tape used r
unfolding stepped_by stepped interpreted handed
by_refusal out tape used r error f = rw (← f)
