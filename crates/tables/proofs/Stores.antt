-- The rows of a store that take part: all their addresses are inside its table, and so few that no count overflows.
use Rattle.std.proofs.Common.{◌≡◌, refl, Bool, true, false, cond, List, [], ◌∷◌, ℕ, zero, suc, ◌+◌, ◌-◌, ◌*◌, ◌≤◌, ◌<◌, arith, ltb, ltb-true, ltb-false, lit≤, length, length-take, drop}
use mathlib.Core.List.Memᴰ
use mathlib.Core.List.{Memᴰ}
use Rattle.values.specs.declared.Value.{Value}
use Rattle.values.specs.declared.Value.TheVariants.{Concrete, Uninitialized}
use Rattle.rows.specs.Rows.{Row}
use Rattle.rows.specs.Limits.{most_rows}
use Rattle.store.specs.Store.{cut, memory_of, most_marks}
use Rattle.store.specs.Lent.{rows_seen}
use Rattle.store.specs.declared.view.StoreRef.{StoreRef}
use Rattle.store.proofs.Rows.{length_rows}
use Rattle.counting.specs.Cells.{first_register_cell, first_memory_cell, place_at, base_of, byte_addresses, word_addresses, addresses_to, addresses_of}
use Rattle.counting.specs.Lent.{rows_taking}
use Rattle.counting.specs.declared.taking.Taking.{Taking}
use Rattle.counting.proofs.Members.{taking_among, taking_length}
use Rattle.tables.specs.Tables.{table_length, addresses_in, increments}
use Rattle.tables.specs.Changes.{Inside}
use Rattle.tables.proofs.Changes.{inside_both}
use Rattle.tables.proofs.Totals.{increments_most}
use Rattle.tables.proofs.Words.{byte_address}

-- ---- every address of a state of W memory words is below 256 × (W + 320)
bytes_inside : (place x b cells : ℕ) → b ≤ 8 → base_of place + 57 ≤ cells → Inside (byte_addresses place x b) (256 * cells)
unfolding byte_addresses
bytes_inside place x zero cells h l = tt
bytes_inside place x (suc b) cells h l =
    inside_both (byte_addresses place x b) (byte_address place x b ∷ []) (256 * cells) (bytes_inside place x b cells (omega arith) l) (omega arith, tt)

base_inside : (place w : ℕ) → place < 33 + w → base_of place + 57 ≤ w + 320
unfolding base_of
base_inside zero w h = omega arith
base_inside (suc n) w h = go (ltb n 32) refl
  where
    go : (t : Bool) → ltb n 32 ≡ t → cond t (first_register_cell + n) (first_memory_cell + (n - 32)) + 57 ≤ w + 320
    go true e = omega (arith, ltb-true n 32 e)
    go false e = omega (arith, ltb-false n 32 e)

word_inside : (place w : ℕ) (v : Value) → place < 33 + w → Inside (word_addresses place v) (table_length w)
word_inside place w (Concrete x) h = bytes_inside place x 8 (w + 320) (lit≤ tt) (base_inside place w h)
word_inside place w Uninitialized h = tt

places_inside : (n w : ℕ) (r : Row) → n ≤ 33 + w → Inside (addresses_to n r) (table_length w)
unfolding addresses_to
places_inside zero w r h = tt
places_inside (suc n) w r h =
    inside_both (addresses_to n r) (word_addresses n (place_at r n)) (table_length w) (places_inside n w r (omega arith)) (word_inside n w (place_at r n) h)

pub addresses_inside : (w : ℕ) (r : Row) → length r.marks ≤ 32 + w → Inside (addresses_of r) (table_length w)
addresses_inside w r h = places_inside (suc (length r.marks)) w r (omega arith)

-- ---- rows of at most n marks
abbrev pub Short : ℕ → List Row → Type 0
Short n rows = (r : Row) → Memᴰ r rows → length r.marks ≤ n

pub rows_inside : (w : ℕ) (rows : List Row) → Short (32 + w) rows → Inside (addresses_in rows) (table_length w)
unfolding addresses_in
rows_inside w [] h = tt
rows_inside w (r ∷ rows) h =
    inside_both (addresses_of r) (addresses_in rows) (table_length w) (addresses_inside w r (h r (Memᴰ.head refl))) (rows_inside w rows (λ q m. h q (Memᴰ.tail m)))

-- no row has more marks than are cut for it
pub cut_short : (n w m : ℕ) (words marks : List ℕ) → Short m (cut n w m words marks)
unfolding cut
cut_short zero w m words marks r i = absurd (Memᴰ.not-nil i)
cut_short (suc n) w m words marks r (Memᴰ.head e) = rw e (omega (arith, length-take m marks))
cut_short (suc n) w m words marks r (Memᴰ.tail i) = cut_short n w m (drop w words) (drop m marks) r i

-- ---- the rows of a store, and those that take part
pub rows_short : (s : StoreRef) → Short s.layout.marks (rows_seen s)
rows_short s = cut_short s.layout.rows s.layout.words s.layout.marks s.words.now s.marks.now

module _ (t : Taking) where
  pub taking_few : length (rows_taking t) ≤ most_rows
  taking_few =
      let s = t.store in
      let n = s.layout in
      omega (arith, taking_length t.flags.now (rows_seen s), length_rows n.rows n.words n.marks s.words.now s.marks.now, s.fit.sized.few)

  taking_short : Short t.store.layout.marks (rows_taking t)
  taking_short r m = rows_short t.store r (taking_among t.flags.now (rows_seen t.store) m)

  pub taking_inside : Inside (addresses_in (rows_taking t)) (table_length (memory_of t.store.layout))
  taking_inside =
      rows_inside (memory_of t.store.layout) (rows_taking t) (λ r m. omega (arith, taking_short r m, t.store.fit.sized.registers))

  -- 8 × (1 + 131,104) × 4,096
  pub taking_increments : increments (rows_taking t) ≤ 4296048640
  taking_increments =
      omega (arith, taking_few, increments_most most_marks (rows_taking t) (λ r m. omega (arith, taking_short r m, t.store.fit.sized.memory)))
