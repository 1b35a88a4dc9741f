-- Two rows that an instruction cannot tell apart, since it reads the same of both, and that its writes keep so. They may be on two tapes, with a used count each.
-- A law of all instructions is such a relation: the two rows differ in what no instruction reads, or are one row with what all writes keep,
-- or one row that draws the same from another tape.
use Rattle.std.proofs.Common.{◌≡◌, ap, List, ℕ, ◌+◌, ◌/◌, ◌≤◌, ◌<◌}
use Rattle.values.specs.declared.Value.{Value}
use Rattle.calls.specs.Calls.{step_of}
use Rattle.calls.specs.declared.step.Step.{Step}
use Rattle.calls.specs.declared.step.Step.TheVariants as step
use Rattle.reading.specs.Reading.{Reached, logged_at, bytes}
use Rattle.rows.specs.Rows.{Row, pc_of, break_of, depth_of, log_start, memory_words, set_word, slot_at, set_slot}

-- all that an instruction reads of a row, but for its log
pub record Same (r s : Row) : Type 0 where
  pub pc : pc_of r ≡ pc_of s
  pub break : break_of r ≡ break_of s
  pub depth : depth_of r ≡ depth_of s
  pub slots : slot_at r ≡ slot_at s
  pub marks : r.marks ≡ s.marks

pub same_slot : {r s : Row} → Same r s → (n : ℕ) → slot_at r n ≡ slot_at s n
same_slot e n = ap (λ (f : ℕ → Value). f n) e.slots

-- a word goes to the end of the row's log
abbrev pub logged : ℕ → Row → Row
logged x r = logged_at (log_start r) x r

-- a relation of rows, each with its used count
abbrev pub Relation : Type 1
Relation = ℕ → Row → ℕ → Row → Type 0

-- related rows that reading or an instruction left, with the same to say of both
pub record Agreed (R : Relation) (x y : Reached) : Type 0 where
  pub rows : R x.moved.used x.row y.moved.used y.row
  pub progress : x.moved.progress ≡ y.moved.progress

-- which ends are compared: a law may speak of some alone
abbrev pub Ends : Type 1
Ends = Step → Row → Type 0

-- so, if the first end is compared
abbrev pub Both : Relation → Ends → Reached → Reached → Type 0
Both R If x y = If (step_of x.moved.progress) x.row → Agreed R x y

-- R relates rows of w memory words on two tapes. Each write has what is known where an instruction makes it
pub record Alike (w : ℕ) (tape tape' : List ℕ) (R : Relation) (If : Ends) : Type 0 where
  pub same : {u v : ℕ} {r s : Row} → R u r v s → Same r s
  pub memory : {u v : ℕ} {r s : Row} → R u r v s → memory_words r ≡ w
  pub to_header : {u v : ℕ} {r s : Row} (i x : ℕ) → i < 3 → R u r v s → R u (set_word i x r) v (set_word i x s)
  pub to_slot : {u v : ℕ} {r s : Row} (n : ℕ) (x : Value) → 0 < n → n < 32 + w → R u r v s → R u (set_slot n x r) v (set_slot n x s)
  pub reads : (size m u v : ℕ) (r s : Row) → m + (size + 7) / 8 ≤ w → R u r v s → Both R If (bytes size tape m u r) (bytes size tape' m v s)
  -- an end that is compared was so before the last write, and before the write call that it was
  pub if_header : (t : Step) (r : Row) (i x : ℕ) → i < 3 → If t (set_word i x r) → If t r
  pub if_slot : (t : Step) (r : Row) (n : ℕ) (x : Value) → n < 32 + w → If t (set_slot n x r) → If t r
  pub if_write : (buffer size : ℕ) (r : Row) → If step.Running r → If (step.Write buffer size) r
