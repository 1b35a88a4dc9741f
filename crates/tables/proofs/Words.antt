-- The eight bytes of a word, one after the other.
use Rattle.std.proofs.Common.{◌≡◌, refl, ap, ◌∙◌, List, [], ◌∷◌, ◌++◌, map, append_assoc, append-nil, ℕ, zero, suc, ◌+◌, ◌-◌, ◌≤◌, ◌<◌, ◌⊎◌, inl, inr, add-one, arith, length, get_or, set}
use Rattle.std.proofs.Math.ListN.{get_or-eq_default}
use Rattle.values.specs.Values.{byte_of}
use Rattle.means.specs.Means.{Counters}
use Rattle.counting.specs.Cells.{cell_of, address_of, byte_addresses}
use Rattle.tables.specs.Changes.{changed, added, Inside, Room}
use Rattle.tables.proofs.Begins.{Begins, inside_begins, room_begins, counters_begins, counters_right}
use Rattle.tables.proofs.Changes.{lt_or_ge, changed_one, inside_right, room_right, room_one}

-- the address of byte b
abbrev pub byte_address : ℕ → ℕ → ℕ → ℕ
byte_address place x b = address_of (cell_of place b) (byte_of x b)

pub bytes_none : (place x : ℕ) → byte_addresses place x 0 ≡ []
unfolding byte_addresses
bytes_none place x = refl

pub bytes_more : (place x b : ℕ) → byte_addresses place x (b + 1) ≡ byte_addresses place x b ++ (byte_address place x b ∷ [])
unfolding byte_addresses
bytes_more place x b = rw add-one

-- the bytes up to byte b begin those of the word
bytes_begin : (place x b k : ℕ) → Begins (byte_addresses place x b) (byte_addresses place x (b + k))
unfolding byte_addresses
bytes_begin place x b zero = record { rest = []; made = ap (byte_addresses place x) {x = b + 0} {y = b} (omega arith) ∙ append-nil' }
  where
    append-nil' : byte_addresses place x b ≡ byte_addresses place x b ++ []
    append-nil' = rw append-nil
bytes_begin place x b (suc k) =
    let all = bytes_begin place x b k in
    let last = byte_address place x (b + k) ∷ [] in
    record {
      rest = all.rest ++ last;
      made =
          ap (byte_addresses place x) {x = b + suc k} {y = suc (b + k)} (omega arith)
          ∙ ap (λ z. z ++ last) all.made
          ∙ append_assoc (byte_addresses place x b) all.rest last;
    }

module _ (place x b : ℕ) (l : b < 8) where
  byte_begins : Begins (byte_addresses place x b ++ (byte_address place x b ∷ [])) (byte_addresses place x 8)
  byte_begins =
      let e : b + 1 + (7 - b) ≡ 8 = omega arith in
      rw (← bytes_more place x b, ← e) (bytes_begin place x (b + 1) (7 - b))

  -- a is its address
  module _ {a : ℕ} (is : a ≡ byte_address place x b) where
    pub byte_inside : (n : ℕ) → Inside (byte_addresses place x 8) n → a < n
    byte_inside n h = rw is (inside_right (byte_addresses place x b) (byte_address place x b ∷ []) n (inside_begins n byte_begins h)).0

    pub byte_room : {t now : List ℕ} → Room t (byte_addresses place x 8) → now ≡ added (byte_addresses place x b) t
        → (a < length now) × (get_or now a 0 + 1 ≤ 0xffff_ffff)
    byte_room r e =
        rw is
        (room_one (byte_address place x b) (room_right (byte_addresses place x b) (byte_address place x b ∷ []) e (room_begins byte_begins r)))

    pub byte_counter : (f : ℕ → ℕ) → Counters (map f (byte_addresses place x 8)) → (1 ≤ f a) × (f a ≤ 32768)
    byte_counter f c =
        let one : Counters (map f (byte_address place x b ∷ [])) =
        counters_right f (byte_addresses place x b) (byte_address place x b ∷ []) (counters_begins f byte_begins c) in
        rw is (one.0, one.1)

    -- byte b is changed
    pub byte_changed : (f : ℕ → ℕ) (t : List ℕ) {now next : List ℕ} → now ≡ changed f (byte_addresses place x b) t → next ≡ set now a (f (get_or now a 0))
        → next ≡ changed f (byte_addresses place x (b + 1)) t
    byte_changed f t e d = rw bytes_more (changed_one f (byte_addresses place x b) (byte_address place x b) t e (rw is at d))

-- a counter that is not 0 is inside
pub counter_inside : (t : List ℕ) (a : ℕ) → 1 ≤ get_or t a 0 → a < length t
counter_inside t a h = go (lt_or_ge a (length t))
  where
    go : (a < length t) ⊎ (length t ≤ a) → a < length t
    go (inl l) = l
    go (inr l) = absurd (omega (arith, get_or-eq_default t 0 {n = a} l))
