-- Every instruction and every run keeps a sound row sound.
-- So register 0 stays a marked 0, marks stay 0 or 1, unmarked words and the log's words past its count stay 0, and the count within its room.
use Rattle.std.proofs.Common.{true, List, ◌≡◌, ◌∙◌, ℕ, ◌+◌, arith, length, length-set}
use Rattle.rows.specs.Rows.{Row, Shape, memory_words, limit_of, mark_of}
use Rattle.rows.specs.Valid.{sound_row}
use Rattle.machine.specs.Steps.{advanced}
use Rattle.machine.specs.Runs.{run_for, run_of}
use Rattle.invariants.proofs.Invariant.{Invariant, advanced_keeps}
use Rattle.invariants.proofs.SoundFacts.{Sound, facts_of, sound_by}
use Rattle.invariants.proofs.SoundWrites.{sound_header, sound_slot, sound_log}
use Rattle.invariants.proofs.Runs.{run_for_keeps, run_keeps}

-- a sound row of 32 registers and w memory words
record SoundOf (w : ℕ) (r : Row) : Type 0 where
  marks : length r.marks ≡ 32 + w
  sound : Sound r

sound_of : (r : Row) → Shape r.words r.marks → sound_row r ≡ true → SoundOf (memory_words r) r
sound_of r shape h = record { marks = omega arith; sound = facts_of r h }

invariant : (w : ℕ) → Invariant w (SoundOf w)
invariant w =
    record {
      memory = λ r h. let e = h.marks in omega arith;
      to_header = λ r i x k h. record { marks = h.marks; sound = sound_header r i x (omega arith) h.sound };
      to_slot =
          λ r n v k l h. let e = h.marks in record { marks = length-set r.marks n (mark_of v) ∙ e; sound = sound_slot r n v k (omega arith) h.sound };
      to_log = λ r x k h. record { marks = h.marks; sound = sound_log r x k h.sound };
    }

each : (w : ℕ) (tape : List ℕ) (used : ℕ) (r : Row) → SoundOf w r → SoundOf w (advanced tape used r).row
each w = advanced_keeps w (SoundOf w) (invariant w)

pub advanced_sound : (tape : List ℕ) (used : ℕ) (r : Row) → Shape r.words r.marks → sound_row r ≡ true → sound_row (advanced tape used r).row ≡ true
advanced_sound tape used r shape h = sound_by _ (each (memory_words r) tape used r (sound_of r shape h)).sound

pub run_for_sound : (n : ℕ) (tape : List ℕ) (used : ℕ) (r : Row) → Shape r.words r.marks → sound_row r ≡ true → sound_row (run_for n tape used r).row ≡ true
run_for_sound n tape used r shape h =
    let w = memory_words r in
    sound_by _ (run_for_keeps (SoundOf w) tape (each w tape) n used r (sound_of r shape h)).sound

pub run_sound : (step : ℕ) (tape : List ℕ) (used : ℕ) (r : Row) → Shape r.words r.marks → sound_row r ≡ true → sound_row (run_of step tape used r).row ≡ true
run_sound step tape used r shape h =
    let w = memory_words r in
    let s = sound_of r shape h in
    sound_by _
    (run_keeps (SoundOf w) tape (each w tape) step used r (record { marks = s.marks; sound = sound_header r 3 (limit_of r + step) (omega arith) s.sound })).sound
