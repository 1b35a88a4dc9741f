-- What an instruction leaves alone: the lengths of a row, its limit and its word `born`; and depth grows by 1.
use Rattle.std.proofs.Common.{Bool, true, false, ◌≡◌, refl, ◌∙◌, List, ℕ, ◌+◌, ◌<◌, arith, length, length-set, get_or-set_same, get_or-set_other, Option, Some, None, Result, Ok, Err}
use Rattle.riscu.specs.Decoding.{decoded}
use Rattle.riscu.specs.declared.instruction.Instruction.{Instruction}
use Rattle.answers.specs.declared.error.ExecutorError.{ExecutorError}
use Rattle.effects.specs.declared.effect.Effect.{Effect}
use Rattle.rows.specs.Rows.{Row, depth_of, limit_of, born_of}
use Rattle.execution.specs.Execution.{effect_in, applied, next_of}
use Rattle.execution.specs.declared.Next.{Next}
use Rattle.execution.specs.declared.Next.TheVariants as next
use Rattle.execution.proofs.Kept.{applied_words, applied_marks, applied_header}
use Rattle.calls.specs.Calls.{system, completed}
use Rattle.calls.specs.declared.step.Step.{Step}
use Rattle.calls.specs.declared.step.Step.TheVariants as step
use Rattle.calls.proofs.Kept.{system_words, system_marks, system_depth, system_limit, system_born, completed_words, completed_marks, completed_depth, completed_limit, completed_born}
use Rattle.machine.specs.Steps.{fetched, followed, executed, interpreted, deeper, stepped, settled, advanced}
use Rattle.machine.specs.Handing.{handed, stepped_by}

-- what effects and calls keep of a row, an instruction keeps once its depth is counted, up to the completion of a write call
module _ (f : Row → ℕ) (by_effect : (e : Effect) (r : Row) → f (applied e r) ≡ f r) (by_call : (tape : List ℕ) (used : ℕ) (r : Row) → f (system tape used r).row ≡ f r) where
  followed_kept : (n : Next) (tape : List ℕ) (used : ℕ) (r : Row) → f (followed n tape used r).row ≡ f r
  unfolding followed
  followed_kept next.Instruction tape used r = refl
  followed_kept next.Call tape used r = by_call tape used r
  followed_kept (next.End o) tape used r = refl

  executed_kept : (d : Option Instruction) (tape : List ℕ) (used : ℕ) (r : Row) → f (executed d tape used r).row ≡ f r
  unfolding executed
  executed_kept (Some i) tape used r =
      followed_kept (next_of (effect_in i r)) tape used (applied (effect_in i r) r) ∙ by_effect (effect_in i r) r
  executed_kept None tape used r = refl

  interpreted_kept : (x : Result ℕ ExecutorError) (tape : List ℕ) (used : ℕ) (r : Row) → f (interpreted x tape used r).row ≡ f r
  unfolding interpreted
  interpreted_kept (Ok x) tape used r = executed_kept (decoded x) tape used r
  interpreted_kept (Err e) tape used r = refl

  pub stepped_kept : (tape : List ℕ) (used : ℕ) (r : Row) → f (stepped tape used r).row ≡ f (deeper r)
  unfolding stepped
  stepped_kept tape used r = interpreted_kept (fetched (deeper r)) tape used (deeper r)

  -- what the completion of a write call keeps too, a whole instruction keeps, and one whose write call may be handed out
  module _ (by_write : (size : ℕ) (r : Row) → f (completed size r) ≡ f r) where
    settled_kept : (s : Step) (used : ℕ) (r : Row) → f (settled s used r).row ≡ f r
    unfolding settled
    settled_kept step.Running used r = refl
    settled_kept (step.Write buffer size) used r = by_write size r
    settled_kept (step.Ended o) used r = refl

    pub advanced_kept : (tape : List ℕ) (used : ℕ) (r : Row) → f (advanced tape used r).row ≡ f (deeper r)
    unfolding advanced
    advanced_kept tape used r =
        let x = stepped tape used r in
        settled_kept x.stepped.step x.stepped.used x.row ∙ stepped_kept tape used r

    handed_kept : (out : Bool) (s : Step) (used : ℕ) (r : Row) → f (handed out s used r).row ≡ f r
    unfolding handed
    handed_kept out step.Running used r = refl
    handed_kept true (step.Write buffer size) used r = refl
    handed_kept false (step.Write buffer size) used r = by_write size r
    handed_kept out (step.Ended o) used r = refl

    pub stepped_by_kept : (out : Bool) (tape : List ℕ) (used : ℕ) (r : Row) → f (stepped_by out tape used r).row ≡ f (deeper r)
    unfolding stepped_by
    stepped_by_kept out tape used r =
        let x = stepped tape used r in
        handed_kept out x.stepped.step x.stepped.used x.row ∙ stepped_kept tape used r

pub advanced_words : (tape : List ℕ) (used : ℕ) (r : Row) → length (advanced tape used r).row.words ≡ length r.words
advanced_words tape used r =
    advanced_kept (λ (r : Row). length r.words) applied_words system_words completed_words tape used r
    ∙ length-set r.words 2 (depth_of r + 1)

pub advanced_marks : (tape : List ℕ) (used : ℕ) (r : Row) → length (advanced tape used r).row.marks ≡ length r.marks
advanced_marks = advanced_kept (λ (r : Row). length r.marks) applied_marks system_marks completed_marks

pub advanced_depth : (tape : List ℕ) (used : ℕ) (r : Row) → 2 < length r.words → depth_of (advanced tape used r).row ≡ depth_of r + 1
advanced_depth tape used r h =
    advanced_kept depth_of (applied_header 2 (omega arith) (omega arith)) system_depth completed_depth tape used r
    ∙ get_or-set_same r.words 2 (depth_of r + 1) 0 h

pub advanced_limit : (tape : List ℕ) (used : ℕ) (r : Row) → limit_of (advanced tape used r).row ≡ limit_of r
advanced_limit tape used r =
    advanced_kept limit_of (applied_header 3 (omega arith) (omega arith)) system_limit completed_limit tape used r
    ∙ get_or-set_other r.words 2 3 (depth_of r + 1) 0 (λ e. omega arith)

pub advanced_born : (tape : List ℕ) (used : ℕ) (r : Row) → born_of (advanced tape used r).row ≡ born_of r
advanced_born tape used r =
    advanced_kept born_of (applied_header 5 (omega arith) (omega arith)) system_born completed_born tape used r
    ∙ get_or-set_other r.words 2 5 (depth_of r + 1) 0 (λ e. omega arith)

pub stepped_words : (tape : List ℕ) (used : ℕ) (r : Row) → length (stepped tape used r).row.words ≡ length r.words
stepped_words tape used r =
    stepped_kept (λ (r : Row). length r.words) applied_words system_words tape used r ∙ length-set r.words 2 (depth_of r + 1)

pub stepped_marks : (tape : List ℕ) (used : ℕ) (r : Row) → length (stepped tape used r).row.marks ≡ length r.marks
stepped_marks = stepped_kept (λ (r : Row). length r.marks) applied_marks system_marks

pub stepped_depth : (tape : List ℕ) (used : ℕ) (r : Row) → 2 < length r.words → depth_of (stepped tape used r).row ≡ depth_of r + 1
stepped_depth tape used r h =
    stepped_kept depth_of (applied_header 2 (omega arith) (omega arith)) system_depth tape used r
    ∙ get_or-set_same r.words 2 (depth_of r + 1) 0 h

pub stepped_limit : (tape : List ℕ) (used : ℕ) (r : Row) → limit_of (stepped tape used r).row ≡ limit_of r
stepped_limit tape used r =
    stepped_kept limit_of (applied_header 3 (omega arith) (omega arith)) system_limit tape used r
    ∙ get_or-set_other r.words 2 3 (depth_of r + 1) 0 (λ e. omega arith)

pub stepped_born : (tape : List ℕ) (used : ℕ) (r : Row) → born_of (stepped tape used r).row ≡ born_of r
stepped_born tape used r =
    stepped_kept born_of (applied_header 5 (omega arith) (omega arith)) system_born tape used r
    ∙ get_or-set_other r.words 2 5 (depth_of r + 1) 0 (λ e. omega arith)

pub stepped_by_depth : (out : Bool) (tape : List ℕ) (used : ℕ) (r : Row) → 2 < length r.words → depth_of (stepped_by out tape used r).row ≡ depth_of r + 1
stepped_by_depth out tape used r h =
    stepped_by_kept depth_of (applied_header 2 (omega arith) (omega arith)) system_depth completed_depth out tape used r
    ∙ get_or-set_same r.words 2 (depth_of r + 1) 0 h
