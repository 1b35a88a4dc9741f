-- What a system call leaves alone: the lengths of a row's words and marks, its depth, its limit and its word `born`.
use Rattle.std.proofs.Common.{◌≡◌, Result, Ok, Err, ℕ, ◌+◌, ◌/◌, ◌<◌, cond, ltb, List, length, get_or, refl, ◌∙◌, arith, length-set, get_or-set_other}
use Rattle.laws.proofs.Choices.{chosen}
use Rattle.effects.specs.Effects.{following}
use Rattle.calls.specs.declared.number.SyscallId.{SyscallId}
use Rattle.calls.specs.declared.number.SyscallId.TheVariants as call
use Rattle.values.specs.declared.Value.{Value}
use Rattle.values.specs.declared.Value.TheVariants.{Concrete, Uninitialized}
use Rattle.rows.specs.Rows.{Row, header, pc_of, break_of, depth_of, limit_of, born_of, memory_words, set_pc, set_break, slot_at}
use Rattle.reading.specs.Reading.{running, bytes}
use Rattle.reading.proofs.Kept.{then_kept, bytes_words, bytes_marks, bytes_header}
use Rattle.answers.specs.declared.outcome.Outcome.{Outcome}
use Rattle.calls.specs.declared.transfer.Buffer.{Buffer}
use Rattle.calls.specs.Calls.{a0, a7, returned, brk, transfer_of, read_reasons, read_to, read, call_of, id_of, system, completed}

-- f is what is kept: by a call, if by each way in which one writes a row
module _ {A : Type 0} (f : Row → A) (pc : (x : ℕ) (r : Row) → f (set_pc x r) ≡ f r) (break : (x : ℕ) (r : Row) → f (set_break x r) ≡ f r) (answer : (x : ℕ) (r : Row) → f (returned x r) ≡ f r) (input : (size : ℕ) (tape : List ℕ) (m used : ℕ) (r : Row) → f (bytes size tape m used r).row ≡ f r) where
  brk_kept : (w : ℕ) (wanted : Value) (r : Row) → f (brk w wanted r) ≡ f r
  unfolding brk
  brk_kept w (Concrete wanted) r =
      let Same : Row → Type 0 = λ s. f s ≡ f r in
      let refused = returned (break_of r) r in
      chosen Same (ltb wanted (break_of r)) refused (cond (ltb (wanted / 8) w) (set_break wanted r) refused)
      (λ t. answer (break_of r) r)
      (λ t. chosen Same (ltb (wanted / 8) w) (set_break wanted r) refused (λ u. break wanted r) (λ u. answer (break_of r) r))
  brk_kept w Uninitialized r = refl

  read_to_kept : (to : Result Buffer Outcome) (tape : List ℕ) (used : ℕ) (r : Row) → f (read_to to tape used r).row ≡ f r
  unfolding read_to
  read_to_kept (Ok b) tape used r =
      then_kept f (λ u s. running u (returned b.size s)) (λ u s. answer b.size s) (bytes b.size tape (b.address / 8) used r) r
      (input b.size tape (b.address / 8) used r)
  read_to_kept (Err o) tape used r = refl

  call_kept : (id : SyscallId) (tape : List ℕ) (used : ℕ) (r : Row) → f (call_of id tape used r).row ≡ f r
  unfolding call_of read
  call_kept call.Brk tape used r = brk_kept (memory_words r) (slot_at r a0) r
  call_kept call.Read tape used r = read_to_kept (transfer_of 0 read_reasons (memory_words r) r) tape used r
  call_kept call.Write tape used r = refl
  call_kept call.Exit tape used r = refl
  call_kept call.Unknown tape used r = refl

  pub system_kept : (tape : List ℕ) (used : ℕ) (r : Row) → f (system tape used r).row ≡ f r
  unfolding system
  system_kept tape used r =
      let after = (call_of (id_of (slot_at r a7)) tape used r).row in
      pc (following (pc_of after)) after ∙ call_kept (id_of (slot_at r a7)) tape used r

pub completed_words : (size : ℕ) (r : Row) → length (completed size r).words ≡ length r.words
completed_words size r = length-set r.words (header + a0) size

pub completed_marks : (size : ℕ) (r : Row) → length (completed size r).marks ≡ length r.marks
completed_marks size r = length-set r.marks a0 1

-- of the header completing a write changes nothing, and a call only pc, break and log count: words 0, 1 and 4
completed_header : (i : ℕ) → i < header → (size : ℕ) (r : Row) → get_or (completed size r).words i 0 ≡ get_or r.words i 0
completed_header i h size r = get_or-set_other r.words (header + a0) i size 0 (λ e. omega arith)

system_header : (i : ℕ) → 1 < i → (i ≡ 4 → ⊥) → i < header → (tape : List ℕ) (used : ℕ) (r : Row) → get_or (system tape used r).row.words i 0 ≡ get_or r.words i 0
system_header i l other h =
    system_kept (λ (r : Row). get_or r.words i 0) (λ x r. get_or-set_other r.words 0 i x 0 (λ e. omega arith))
    (λ x r. get_or-set_other r.words 1 i x 0 (λ e. omega arith))
    (λ x r. completed_header i h x r)
    (bytes_header i other h)

pub completed_depth : (size : ℕ) (r : Row) → depth_of (completed size r) ≡ depth_of r
completed_depth = completed_header 2 (omega arith)

pub completed_limit : (size : ℕ) (r : Row) → limit_of (completed size r) ≡ limit_of r
completed_limit = completed_header 3 (omega arith)

pub completed_born : (size : ℕ) (r : Row) → born_of (completed size r) ≡ born_of r
completed_born = completed_header 5 (omega arith)

pub system_words : (tape : List ℕ) (used : ℕ) (r : Row) → length (system tape used r).row.words ≡ length r.words
system_words =
    system_kept (λ (r : Row). length r.words) (λ x r. length-set r.words 0 x) (λ x r. length-set r.words 1 x) completed_words bytes_words

pub system_marks : (tape : List ℕ) (used : ℕ) (r : Row) → length (system tape used r).row.marks ≡ length r.marks
system_marks = system_kept (λ (r : Row). length r.marks) (λ x r. refl) (λ x r. refl) completed_marks bytes_marks

pub system_depth : (tape : List ℕ) (used : ℕ) (r : Row) → depth_of (system tape used r).row ≡ depth_of r
system_depth = system_header 2 (omega arith) (λ e. omega arith) (omega arith)

pub system_limit : (tape : List ℕ) (used : ℕ) (r : Row) → limit_of (system tape used r).row ≡ limit_of r
system_limit = system_header 3 (omega arith) (λ e. omega arith) (omega arith)

pub system_born : (tape : List ℕ) (used : ℕ) (r : Row) → born_of (system tape used r).row ≡ born_of r
system_born = system_header 5 (omega arith) (λ e. omega arith) (omega arith)
