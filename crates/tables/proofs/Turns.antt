-- One turn of a walk over a row: what it changes in a table, how many addresses it adds, which counters it takes in.
use Rattle.std.proofs.Common.{◌≡◌, sym, ap, ◌∙◌, List, [], map, ℕ, ◌+◌, ◌<◌, length, length-append}
use mathlib.Core.List.{map-append}
use Rattle.rows.specs.Rows.{Row, pc_of}
use Rattle.marked.specs.Marks.{NextMarked}
use Rattle.means.specs.Means.{Counters}
use Rattle.means.specs.declared.Tally.{Tally}
use Rattle.means.specs.Tallies.{tally}
use Rattle.counting.specs.Cells.{byte_addresses, addresses_of}
use Rattle.counting.proofs.Bounds.{bytes_length}
use Rattle.tables.specs.Changes.{changed, added, Inside, Room}
use Rattle.tables.specs.Taken.{Taken}
use Rattle.tables.proofs.Begins.{inside_begins, room_begins, counters_begins, counters_right}
use Rattle.tables.proofs.Changes.{changed_on, inside_right, room_right}
use Rattle.tables.proofs.Walks.{At, before, slot_addresses, walk_begins, walk_turns, pc_begins, slot_begins}

-- the addresses of pc
module _ (r : Row) {n : ℕ} (m : NextMarked r.marks 0 n) where
  pub pc_changed : (f : ℕ → ℕ) (t : List ℕ) {now : List ℕ} → now ≡ changed f (byte_addresses 0 (pc_of r) 8) t → now ≡ changed f (before r n) t
  pc_changed f t e = rw (walk_begins r m) e

  pub pc_counted : 8 ≡ length (before r n)
  pc_counted = rw (walk_begins r m) (sym (bytes_length 0 (pc_of r) 8))

  pub pc_taken : {counter : ℕ → ℕ} {s t : Tally} → s ≡ tally [] → Taken counter s (byte_addresses 0 (pc_of r) 8) t → t ≡ tally (map counter (before r n))
  pc_taken e k = rw (walk_begins r m) (k.taken [] e)

pub pc_inside : (r : Row) (n : ℕ) → Inside (addresses_of r) n → Inside (byte_addresses 0 (pc_of r) 8) n
pc_inside r n h = inside_begins n (pc_begins r) h

pub pc_room : (r : Row) {t : List ℕ} → Room t (addresses_of r) → Room t (byte_addresses 0 (pc_of r) 8)
pc_room r h = room_begins (pc_begins r) h

pub pc_counters : (r : Row) (f : ℕ → ℕ) → Counters (map f (addresses_of r)) → Counters (map f (byte_addresses 0 (pc_of r) 8))
pc_counters r f h = counters_begins f (pc_begins r) h

-- those of slot n
module _ {r : Row} {n : ℕ} (at : At r n) (l : n < length r.marks) where
  pub slot_inside : (k : ℕ) → Inside (addresses_of r) k → Inside (slot_addresses r n) k
  slot_inside k h = inside_right (before r n) (slot_addresses r n) k (inside_begins k (slot_begins r at l) h)

  pub slot_room : {t now : List ℕ} → Room t (addresses_of r) → now ≡ added (before r n) t → Room now (slot_addresses r n)
  slot_room h e = room_right (before r n) (slot_addresses r n) e (room_begins (slot_begins r at l) h)

  pub slot_counters : (f : ℕ → ℕ) → Counters (map f (addresses_of r)) → Counters (map f (slot_addresses r n))
  slot_counters f h = counters_right f (before r n) (slot_addresses r n) (counters_begins f (slot_begins r at l) h)

  module _ {next : ℕ} (m : NextMarked r.marks (n + 1) next) where
    pub slot_changed : (f : ℕ → ℕ) (t : List ℕ) {now then : List ℕ} → now ≡ changed f (before r n) t → then ≡ changed f (slot_addresses r n) now
        → then ≡ changed f (before r next) t
    slot_changed f t e d = rw (walk_turns r at l m) (changed_on f (before r n) (slot_addresses r n) t e d)

    pub slot_counted : {k : ℕ} → k ≡ length (before r n) → k + 8 ≡ length (before r next)
    slot_counted e = rw (walk_turns r at l m, length-append, bytes_length) (ap (λ z. z + 8) e)

    pub slot_taken : {counter : ℕ → ℕ} {t u : Tally} → t ≡ tally (map counter (before r n)) → Taken counter t (slot_addresses r n) u
        → u ≡ tally (map counter (before r next))
    slot_taken {counter} e k = k.taken (map counter (before r n)) e ∙ ap tally (rw (walk_turns r at l m) (sym (map-append counter (before r n) (slot_addresses r n))))
