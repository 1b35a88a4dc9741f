-- What carrying out an effect leaves alone: the lengths of a row, and its first words but pc.
use Rattle.std.proofs.Common.{◌≡◌, refl, ◌∙◌, ℕ, ◌+◌, ◌<◌, arith, length, get_or, length-set, get_or-set_other}
use Rattle.values.specs.Values.{register_count}
use Rattle.values.specs.declared.Value.{Value}
use Rattle.effects.specs.declared.effect.Effect.{Effect}
use Rattle.effects.specs.declared.effect.Effect.TheVariants as effect
use Rattle.rows.specs.Rows.{Row, set_word, set_pc, set_slot, memory_at, word_of, mark_of, header}
use Rattle.execution.specs.Execution.{applied}

-- a word of a row is untouched by a store to another place, and the words before the slots by a store to a slot
pub word_kept : (r : Row) (i j x : ℕ) → (i ≡ j → ⊥) → get_or (set_word j x r).words i 0 ≡ get_or r.words i 0
word_kept r i j x h = get_or-set_other r.words j i x 0 h

pub slot_header : (r : Row) (n : ℕ) (v : Value) (i : ℕ) → i < header → get_or (set_slot n v r).words i 0 ≡ get_or r.words i 0
slot_header r n v i h = get_or-set_other r.words (header + n) i (word_of v) 0 (λ e. omega arith)

module _ (A : Type 0) (f : Row → A) (pc_kept : (r : Row) (x : ℕ) → f (set_pc x r) ≡ f r) (slot_kept : (r : Row) (n : ℕ) (v : Value) → f (set_slot n v r) ≡ f r) where
  -- what a new pc and a store to a slot keep, an effect keeps
  applied_kept : (e : Effect) (r : Row) → f (applied e r) ≡ f r
  unfolding applied
  applied_kept (effect.Assign rd v pc) r = pc_kept (set_slot rd v r) pc ∙ slot_kept r rd v
  applied_kept (effect.Load rd m pc) r = pc_kept (set_slot rd (memory_at r m) r) pc ∙ slot_kept r rd (memory_at r m)
  applied_kept (effect.Store m v pc) r = pc_kept (set_slot (register_count + m) v r) pc ∙ slot_kept r (register_count + m) v
  applied_kept (effect.Jump pc) r = pc_kept r pc
  applied_kept effect.Call r = refl
  applied_kept (effect.End outcome) r = refl

pub applied_words : (e : Effect) (r : Row) → length (applied e r).words ≡ length r.words
applied_words = applied_kept ℕ (λ (r : Row). length r.words) (λ r x. length-set r.words 0 x) (λ r n v. length-set r.words (header + n) (word_of v))

pub applied_marks : (e : Effect) (r : Row) → length (applied e r).marks ≡ length r.marks
applied_marks = applied_kept ℕ (λ (r : Row). length r.marks) (λ r x. refl) (λ r n v. length-set r.marks n (mark_of v))

pub applied_header : (i : ℕ) → 0 < i → i < header → (e : Effect) (r : Row) → get_or (applied e r).words i 0 ≡ get_or r.words i 0
applied_header i h k = applied_kept ℕ (λ (r : Row). get_or r.words i 0) (λ r x. word_kept r i 0 x (λ e. omega arith)) (λ r n v. slot_header r n v i k)
