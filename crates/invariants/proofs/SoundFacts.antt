-- The conditions of a sound row as facts.
use Rattle.std.proofs.Common.{Bool, true, false, cond, List, [], ◌∷◌, ◌≡◌, refl, ℕ, ◌+◌, ◌-◌, ◌≤◌, ◌<◌, arith, eqb, length, get_or, drop, get_or-drop, eqb-true, eq-eqb, leb-true, le-leb}
use Rattle.laws.proofs.Choices.{both, parts}
use Rattle.rows.specs.Rows.{Row, header, log_start, log_room, log_count}
use Rattle.rows.specs.Valid.{slot_valid, slots_valid, all_zero, sound_row}
use Rattle.invariants.proofs.SlotLists.{slots_at, zeros_at}

pub record Sound (r : Row) : Type 0 where
  pub slots : slots_valid (drop header r.words) r.marks ≡ true
  pub count : log_count r ≤ log_room r
  pub log : all_zero (drop (log_start r + log_count r) r.words) ≡ true
  pub zero_mark : get_or r.marks 0 0 ≡ 1
  pub zero_word : get_or r.words header 0 ≡ 0

pub facts_of : (r : Row) → sound_row r ≡ true → Sound r
unfolding sound_row
facts_of r h =
    let all = parts _ _ h in
    let register = parts _ _ all.1 in
    let front = parts _ _ all.0 in
    let first = parts _ _ front.0 in
    record {
      slots = first.0;
      count = leb-true _ _ first.1;
      log = front.1;
      zero_mark = eqb-true _ _ register.0;
      zero_word = eqb-true _ _ register.1;
    }

pub sound_by : (r : Row) → Sound r → sound_row r ≡ true
unfolding sound_row
sound_by r h = both (both (both h.slots (le-leb _ _ h.count)) h.log) (both (eq-eqb _ _ h.zero_mark) (eq-eqb _ _ h.zero_word))

-- there is a register 0
marked : (l : List ℕ) → get_or l 0 0 ≡ 1 → 0 < length l
marked [] h = absurd (omega arith)
marked (x ∷ l) h = omega arith

pub some_slot : (r : Row) → Sound r → 0 < length r.marks
some_slot r h = marked r.marks h.zero_mark

-- a mark is 0 or 1, and where it is 0 so is the word
mark_cases : (word mark : ℕ) → slot_valid word mark ≡ true → (mark ≤ 1) × (mark ≡ 0 → word ≡ 0)
mark_cases word mark h = go (eqb mark 0) refl h
  where
    go : (b : Bool) → eqb mark 0 ≡ b → cond b (eqb word 0) (eqb mark 1) ≡ true → (mark ≤ 1) × (mark ≡ 0 → word ≡ 0)
    go true e k =
        let m = eqb-true mark 0 e in
        let z = eqb-true word 0 k in
        (omega arith, λ e. z)
    go false e k =
        let m = eqb-true mark 1 k in
        (omega arith, λ e. absurd (omega arith))

module _ (r : Row) (sound : Sound r) where
  pub slot_facts : (n : ℕ) → n < length r.marks → (get_or r.marks n 0 ≤ 1) × (get_or r.marks n 0 ≡ 0 → get_or r.words (header + n) 0 ≡ 0)
  slot_facts n k =
      let word = get_or (drop header r.words) n 0 in
      rw (get_or-drop header r.words n 0) at (mark_cases word (get_or r.marks n 0) (slots_at (drop header r.words) r.marks n k sound.slots))

  pub log_zero : (i : ℕ) → log_start r + log_count r ≤ i → get_or r.words i 0 ≡ 0
  log_zero i k =
      let at = log_start r + log_count r in
      let place : i ≡ at + (i - at) = omega arith in
      rw (place, ← get_or-drop at r.words (i - at) 0) (zeros_at (drop at r.words) (i - at) sound.log)
