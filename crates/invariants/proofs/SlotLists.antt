-- The tests of a sound row on lists: valid slots, and words that are all 0.
use Rattle.std.proofs.Common.{Bool, true, ◌&&◌, List, [], ◌∷◌, ◌≡◌, refl, ap, ℕ, zero, suc, ◌≤◌, ◌<◌, arith, eqb, length, get_or, set, drop, eqb-true}
use Rattle.laws.proofs.Choices.{both, parts}
use Rattle.values.specs.declared.Value.{Value}
use Rattle.values.specs.declared.Value.TheVariants.{Concrete, Uninitialized}
use Rattle.rows.specs.Rows.{word_of, mark_of}
use Rattle.rows.specs.Valid.{slot_valid, slots_valid, all_zero}

-- a value is stored as a valid slot
stored_valid : (v : Value) → slot_valid (word_of v) (mark_of v) ≡ true
stored_valid (Concrete x) = refl
stored_valid Uninitialized = refl

pub slots_set : (ws ms : List ℕ) (n : ℕ) (v : Value) → slots_valid ws ms ≡ true → slots_valid (set ws n (word_of v)) (set ms n (mark_of v)) ≡ true
unfolding slots_valid
slots_set ws [] n v h = refl
slots_set [] (m ∷ ms) n v h = cc
slots_set (x ∷ ws) (m ∷ ms) zero v h = both (stored_valid v) (parts (slot_valid x m) (slots_valid ws ms) h).1
slots_set (x ∷ ws) (m ∷ ms) (suc n) v h =
    let p = parts (slot_valid x m) (slots_valid ws ms) h in
    both {a = slot_valid x m} p.0 (slots_set ws ms n v p.1)

-- words past the slots are free
pub slots_past : (ws ms : List ℕ) (i x : ℕ) → length ms ≤ i → slots_valid (set ws i x) ms ≡ slots_valid ws ms
unfolding slots_valid
slots_past ws [] i x k = refl
slots_past [] (m ∷ ms) i x k = refl
slots_past (y ∷ ws) (m ∷ ms) zero x k = absurd (omega arith)
slots_past (y ∷ ws) (m ∷ ms) (suc i) x k = ap (λ (b : Bool). slot_valid y m && b) (slots_past ws ms i x (omega arith))

-- a slot of valid slots is valid
pub slots_at : (ws ms : List ℕ) (n : ℕ) → n < length ms → slots_valid ws ms ≡ true → slot_valid (get_or ws n 0) (get_or ms n 0) ≡ true
unfolding slots_valid
slots_at ws [] n k h = absurd (omega arith)
slots_at [] (m ∷ ms) n k h = cc
slots_at (x ∷ ws) (m ∷ ms) zero k h = (parts (slot_valid x m) (slots_valid ws ms) h).0
slots_at (x ∷ ws) (m ∷ ms) (suc n) k h = slots_at ws ms n (omega arith) (parts (slot_valid x m) (slots_valid ws ms) h).1

-- zeros go on
pub zeros_on : (l : List ℕ) → all_zero l ≡ true → all_zero (drop 1 l) ≡ true
unfolding all_zero
zeros_on [] h = refl
zeros_on (x ∷ l) h = (parts (eqb x 0) (all_zero l) h).1

pub zeros_at : (l : List ℕ) (n : ℕ) → all_zero l ≡ true → get_or l n 0 ≡ 0
unfolding all_zero
zeros_at [] n h = refl
zeros_at (x ∷ l) zero h = eqb-true x 0 (parts (eqb x 0) (all_zero l) h).0
zeros_at (x ∷ l) (suc n) h = zeros_at l n (parts (eqb x 0) (all_zero l) h).1
