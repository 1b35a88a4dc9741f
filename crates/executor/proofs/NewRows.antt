-- A new executor is a sound row, and so a run of it is accepted.
use Rattle.std.proofs.Common.{Ok, true, ◌≡◌, refl, ◌∙◌, List, ℕ, zero, suc, ◌+◌, ◌-◌, ◌*◌, ◌/◌, ◌≤◌, ◌<◌, arith, length, set, replicate, length-set, get_or-set_same, get_or-set_other, drop-set-lt}
use Rattle.std.proofs.lemmas.List.{drop-replicate}
use Rattle.std.proofs.Math.ListN.{length-replicate, get_or-replicate}
use Rattle.std.proofs.Math.Seq.{drop-set-add}
use Rattle.values.specs.declared.Value.TheVariants.{Concrete}
use Rattle.rows.specs.Rows.{Row, blank, header, memory_words, log_count, log_start, set_slot, set_memory}
use Rattle.rows.specs.Valid.{slots_valid, all_zero, sound_row}
use Rattle.loader.specs.Loading.{Segment, Program, Fits, word_at, loaded_from, loaded, started, programmed, new_executor}
use Rattle.loader.specs.Lent.{Loadable}
use Rattle.loader.proofs.Kept.{new_words, new_marks, new_limit}
use Rattle.invariants.proofs.SlotLists.{slots_set}
use Rattle.invariants.proofs.SoundFacts.{Sound, sound_by}
use Rattle.invariants.proofs.SoundWrites.{sound_header, sound_slot}
use Rattle.executor.specs.Entries.{creation_checked, run_checked}
use Rattle.executor.proofs.Accepted.{creatable, run_accepted}

zeros_valid : (n m : ℕ) → m ≤ n → slots_valid (replicate n 0) (replicate m 0) ≡ true
unfolding slots_valid
zeros_valid n zero k = refl
zeros_valid zero (suc m) k = absurd (omega arith)
zeros_valid (suc n) (suc m) k = zeros_valid n m (omega arith)

zeros_zero : (n : ℕ) → all_zero (replicate n 0) ≡ true
unfolding all_zero
zeros_zero zero = refl
zeros_zero (suc n) = zeros_zero n

-- before anything is in its memory: a blank row with its stack pointer and zero register
module _ (words marks x : ℕ) (registers : 32 < marks) (slots : marks + header ≤ words) where
  abbrev pointed : Row
  pointed = set_slot 0 (Concrete 0) (set_slot 2 (Concrete x) (blank words marks))

  pointed_marks : length pointed.marks ≡ marks
  pointed_marks = simp (length-set, length-replicate)

  pointed_words : length pointed.words ≡ words
  pointed_words = simp (length-set, length-replicate)

  no_log : log_count pointed ≡ 0
  no_log =
      get_or-set_other (set (replicate words 0) (header + 2) x) (header + 0) 4 0 0 (λ e. omega arith)
      ∙ get_or-set_other (replicate words 0) (header + 2) 4 x 0 (λ e. omega arith)
      ∙ get_or-replicate words 4 0 0 (omega arith)

  pointed_sound : Sound pointed
  pointed_sound =
      let start : log_start pointed + log_count pointed ≡ marks + header = omega (arith, pointed_marks, no_log) in
      record {
        slots =
            rw (drop-set-add header (set (replicate words 0) (header + 2) x) 0 0, drop-set-add header (replicate words 0) 2 x, drop-replicate {X = ℕ} header words 0)
            (slots_set (set (replicate (words - header) 0) 2 x) (set (replicate marks 0) 2 1) 0 (Concrete 0)
            (slots_set (replicate (words - header) 0) (replicate marks 0) 2 (Concrete x) (zeros_valid (words - header) marks (omega arith))));
        count = omega (arith, no_log);
        log =
            rw (
              start,
              drop-set-lt (marks + header) (set (replicate words 0) (header + 2) x) (header + 0) 0 (omega arith),
              drop-set-lt (marks + header) (replicate words 0) (header + 2) x (omega arith),
              drop-replicate {X = ℕ} (marks + header) words 0,
            )
            (zeros_zero (words - (marks + header)));
        zero_mark = get_or-set_same (set (replicate marks 0) 2 1) 0 1 0 (simp (length-set, length-replicate) (omega arith));
        zero_word = get_or-set_same (set (replicate words 0) (header + 2) x) header 0 0 (simp (length-set, length-replicate) (omega arith));
      }

-- a sound row of so many marks
record Sized (marks : ℕ) (r : Row) : Type 0 where
  long : length r.marks ≡ marks
  sound : Sound r

module _ (marks : ℕ) (registers : 32 < marks) where
  stored_sound : (m x : ℕ) (r : Row) → 32 + m < marks → Sized marks r → Sized marks (set_memory m (Concrete x) r)
  stored_sound m x r inside h =
      let l = h.long in
      record { long = length-set r.marks (32 + m) 1 ∙ l; sound = sound_slot r (32 + m) (Concrete x) (omega arith) (omega (arith, l)) h.sound }

  -- words loaded into memory
  loaded_from_sound : (n k m : ℕ) (bytes : List ℕ) (r : Row) → (0 < n → 32 + (m + k + n) ≤ marks) → Sized marks r → Sized marks (loaded_from n k m bytes r)
  unfolding loaded_from
  loaded_from_sound zero k m bytes r inside h = h
  loaded_from_sound (suc n) k m bytes r inside h =
      let l = inside (omega arith) in
      loaded_from_sound n (k + 1) m bytes (set_memory (m + k) (Concrete (word_at bytes (8 * k))) r) (λ some. omega (arith, l))
      (stored_sound (m + k) (word_at bytes (8 * k)) r (omega (arith, l)) h)

  loaded_sound : (s : Segment) (r : Row) → Fits (marks - 32) s → Sized marks r → Sized marks (loaded s r)
  unfolding loaded
  loaded_sound s r fits h =
      loaded_from_sound (length s.content / 8) 0 (s.address / 8) s.content r (λ some. let l = fits.inside (omega arith) in omega (arith, l)) h

module _ (p : Program) (words marks : ℕ) (registers : 32 < marks) (slots : marks + header ≤ words) (fits : Loadable (marks - 32) p) where
  started_sound : Sized marks (started (blank words marks))
  unfolding started
  started_sound =
      let x = 8 * memory_words (blank words marks) - 8 in
      let long = length-replicate {A = ℕ} marks 0 in
      stored_sound marks registers (memory_words (blank words marks) - 1) 0 (pointed words marks x registers slots) (omega (arith, long))
      (record { long = pointed_marks words marks x registers slots; sound = pointed_sound words marks x registers slots })

  new_sound : sound_row (new_executor p words marks) ≡ true
  unfolding new_executor programmed
  new_sound =
      let code = loaded_sound marks registers p.code_segment (started (blank words marks)) fits.code_fits started_sound in
      let both = loaded_sound marks registers p.data_segment (loaded p.code_segment (started (blank words marks))) fits.data_fits code in
      sound_by _ (sound_header _ 1 (p.data_segment.address + length p.data_segment.content) (omega arith) (sound_header _ 0 p.code_segment.address (omega arith) both.sound))

pub new_accepted : (memory log : ℕ) (p : Program) (r : Row) → creation_checked memory log p r ≡ Ok tt
    → run_checked memory log (new_executor p (length r.words) (length r.marks)) ≡ Ok tt
new_accepted memory log p r accepted =
    let made = creatable memory log r p accepted in
    let words = length r.words in
    let marks = length r.marks in
    run_accepted memory log r (new_executor p words marks) made.tests (new_words p words marks) (new_marks p words marks)
    (new_sound p words marks made.sizes.some_memory made.sizes.shape.slots made.fits)
    (omega (arith, new_limit p words marks made.sizes.some_memory made.sizes.shape.slots))
