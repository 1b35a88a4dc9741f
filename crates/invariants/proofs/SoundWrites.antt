-- A sound row stays sound through every write of an instruction.
use Rattle.std.proofs.Common.{◌≡◌, ◌∙◌, ℕ, ◌+◌, ◌<◌, arith, length, set, drop, length-set, get_or-set_same, get_or-set_other, drop-set-lt, drop-drop}
use Rattle.std.proofs.Math.Seq.{drop-set-add}
use Rattle.values.specs.declared.Value.{Value}
use Rattle.rows.specs.Rows.{Row, header, log_start, log_room, log_count, set_word, set_slot, word_of, mark_of}
use Rattle.invariants.proofs.Alike.{logged}
use Rattle.invariants.proofs.SlotLists.{slots_set, slots_past, zeros_on}
use Rattle.invariants.proofs.SoundFacts.{Sound, some_slot}

-- no condition is on pc, break, depth or limit
pub sound_header : (r : Row) (i x : ℕ) → i < 4 → Sound r → Sound (set_word i x r)
sound_header r i x k h =
    let count = get_or-set_other r.words i 4 x 0 (λ e. omega arith) in
    record {
      slots = rw (drop-set-lt header r.words i x (omega arith)) h.slots;
      count = rw (count, length-set r.words i x) h.count;
      log = rw (count, drop-set-lt (log_start r + log_count r) r.words i x (omega arith)) h.log;
      zero_mark = h.zero_mark;
      zero_word = get_or-set_other r.words i header x 0 (λ e. omega arith) ∙ h.zero_word;
    }

-- a slot takes a value; it is not register 0
pub sound_slot : (r : Row) (n : ℕ) (v : Value) → 0 < n → n < length r.marks → Sound r → Sound (set_slot n v r)
sound_slot r n v k l h =
    let count = get_or-set_other r.words (header + n) 4 (word_of v) 0 (λ e. omega arith) in
    let size = length-set r.marks n (mark_of v) in
    record {
      slots = rw (drop-set-add header r.words n (word_of v)) (slots_set (drop header r.words) r.marks n v h.slots);
      count = rw (count, size, length-set r.words (header + n) (word_of v)) h.count;
      log = rw (count, size, drop-set-lt (log_start r + log_count r) r.words (header + n) (word_of v) (omega arith)) h.log;
      zero_mark = get_or-set_other r.marks n 0 (mark_of v) 0 (λ e. omega arith) ∙ h.zero_mark;
      zero_word = get_or-set_other r.words (header + n) header (word_of v) 0 (λ e. omega arith) ∙ h.zero_word;
    }

-- a log with room takes a word
pub sound_log : (r : Row) (x : ℕ) → log_count r < log_room r → Sound r → Sound (logged x r)
sound_log r x k h =
    let at = log_start r + log_count r in
    let noted = set r.words at x in
    let size = length-set r.words at x in
    let count = get_or-set_same noted 4 (log_count r + 1) 0 (omega arith) in
    let place : at ≡ header + (length r.marks + log_count r) = omega arith in
    let first = some_slot r h in
    let after : log_start r + (log_count r + 1) ≡ at + 1 = omega arith in
    record {
      slots =
          rw (drop-set-lt header noted 4 (log_count r + 1) (omega arith), place, drop-set-add header r.words (length r.marks + log_count r) x)
          (slots_past (drop header r.words) r.marks (length r.marks + log_count r) x (omega arith) ∙ h.slots);
      count = rw (count, length-set noted 4 (log_count r + 1), size) (omega arith);
      log =
          rw (count, after, drop-set-lt (at + 1) noted 4 (log_count r + 1) (omega arith), drop-set-lt (at + 1) r.words at x (omega arith), ← drop-drop 1 at r.words)
          (zeros_on (drop at r.words) h.log);
      zero_mark = h.zero_mark;
      zero_word =
          get_or-set_other noted 4 header (log_count r + 1) 0 (λ e. omega arith)
          ∙ get_or-set_other r.words at header x 0 (λ e. omega arith)
          ∙ h.zero_word;
    }
