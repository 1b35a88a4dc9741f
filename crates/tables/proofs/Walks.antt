-- A walk over a row's marked slots: at each of them its place's list of addresses so far, and what one turn adds.
use Rattle.std.proofs.Common.{◌≡◌, refl, sym, ap, ◌∙◌, List, [], ◌++◌, append_assoc, append-nil, ℕ, zero, suc, ◌+◌, ◌-◌, ◌≤◌, ◌<◌, ◌⊎◌, inl, inr, add-one, arith, eq-eqb, ne_eqb, length, get_or}
use Rattle.std.proofs.Math.Seq.{get_or-drop}
use Rattle.values.specs.Values.{value_at}
use Rattle.rows.specs.Rows.{Row, header, pc_of}
use Rattle.marked.specs.Marks.{Unmarked, NextMarked}
use Rattle.counting.specs.Cells.{place_at, byte_addresses, word_addresses, addresses_to, addresses_of}
use Rattle.tables.proofs.Changes.{lt_or_ge}
use Rattle.tables.proofs.Begins.{Begins}

-- the addresses of the first places begin those of more
pub places_begin : (i n : ℕ) (r : Row) → i ≤ n → Begins (addresses_to i r) (addresses_to n r)
unfolding addresses_to
places_begin i zero r l = record { rest = []; made = ap (λ k. addresses_to k r) {x = zero} {y = i} (omega arith) ∙ sym (append-nil (addresses_to i r)) }
places_begin i (suc n) r l = go (lt_or_ge n i) (places_begin i n r)
  where
    go : (n < i) ⊎ (i ≤ n) → (i ≤ n → Begins (addresses_to i r) (addresses_to n r)) → Begins (addresses_to i r) (addresses_to (suc n) r)
    go (inl m) ih =
        let e : suc n ≡ i = omega arith in
        record { rest = []; made = ap (λ k. addresses_to k r) e ∙ sym (append-nil (addresses_to i r)) }
    go (inr m) ih =
        let b = ih m in
        let last = word_addresses n (place_at r n) in
        record { rest = b.rest ++ last; made = ap (λ z. z ++ last) b.made ∙ append_assoc (addresses_to i r) b.rest last }

module _ (r : Row) where
  -- pc and the slots before slot n
  abbrev pub before : ℕ → List ℕ
  before n = addresses_to (suc n) r

  abbrev pub word_in : ℕ → ℕ
  word_in n = get_or r.words (header + n) 0

  -- the eight addresses of slot n, if it is marked
  abbrev pub slot_addresses : ℕ → List ℕ
  slot_addresses n = byte_addresses (n + 1) (word_in n) 8

  marked_slot : (n : ℕ) → (get_or r.marks n 0 ≡ 0 → ⊥) → before (suc n) ≡ before n ++ slot_addresses n
  unfolding addresses_to place_at value_at
  marked_slot n h = rw (add-one, ne_eqb (get_or r.marks n 0) 0 h, get_or-drop header r.words n 0)

  unmarked_slot : (n : ℕ) → get_or r.marks n 0 ≡ 0 → before (suc n) ≡ before n
  unfolding addresses_to place_at value_at
  unmarked_slot n h = rw (eq-eqb (get_or r.marks n 0) 0 h) (append-nil (before n))

  -- unmarked slots add nothing
  passed : (i k : ℕ) → ((j : ℕ) → i ≤ j → j < i + k → get_or r.marks j 0 ≡ 0) → before (i + k) ≡ before i
  passed i zero h = ap before {x = i + 0} {y = i} (omega arith)
  passed i (suc k) h =
      ap before {x = i + suc k} {y = suc (i + k)} (omega arith) ∙ unmarked_slot (i + k) (h (i + k) (omega arith) (omega arith)) ∙ passed i k (λ j p q. h j p (omega arith))

  unmarked_same : {i j : ℕ} → Unmarked r.marks i j → before j ≡ before i
  unmarked_same {i} {j} u =
      let e : j ≡ i + (j - i) = omega (arith, u.forward) in
      ap before e ∙ passed i (j - i) (λ k p q. u.zeros k p (omega (arith, u.forward)))

  -- where a walk is: at a marked slot, or past all
  pub record At (n : ℕ) : Type 0 where
    pub within : n ≤ length r.marks
    pub marked : n < length r.marks → get_or r.marks n 0 ≡ 0 → ⊥

  pub at_next : {i n : ℕ} → NextMarked r.marks i n → At n
  at_next m = record { within = m.unmarked.within; marked = m.marked }

  first_place : before 0 ≡ byte_addresses 0 (pc_of r) 8
  unfolding addresses_to place_at
  first_place = refl

  -- it begins with the addresses of pc, a turn adds those of its slot, and at the end there are all
  pub walk_begins : {n : ℕ} → NextMarked r.marks 0 n → before n ≡ byte_addresses 0 (pc_of r) 8
  walk_begins m = unmarked_same m.unmarked ∙ first_place

  pub walk_turns : {n next : ℕ} → At n → n < length r.marks → NextMarked r.marks (n + 1) next → before next ≡ before n ++ slot_addresses n
  walk_turns {n} at l m = unmarked_same m.unmarked ∙ ap before (add-one n) ∙ marked_slot n (at.marked l)

  pub walk_ends : {n : ℕ} → At n → length r.marks ≤ n → before n ≡ addresses_of r
  walk_ends {n} at l = ap before {y = length r.marks} (omega (arith, at.within))

  -- the addresses of pc, and those so far with those of the slot, begin the row's
  pub pc_begins : Begins (byte_addresses 0 (pc_of r) 8) (addresses_of r)
  pc_begins = rw (← first_place) (places_begin 1 (suc (length r.marks)) r (omega arith))

  pub slot_begins : {n : ℕ} → At n → n < length r.marks → Begins (before n ++ slot_addresses n) (addresses_of r)
  slot_begins {n} at l = rw (← marked_slot n (at.marked l)) (places_begin (suc (suc n)) (suc (length r.marks)) r (omega arith))
