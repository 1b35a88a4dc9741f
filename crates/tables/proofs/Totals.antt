-- The table after counting: each counter, their sum, and that averaging finds in it what counting over the rows gives.
use Rattle.std.proofs.Common.{◌≡◌, refl, ap, ◌∙◌, List, [], ◌∷◌, map, ℕ, zero, suc, ◌+◌, ◌*◌, ◌≤◌, ◌<◌, zero-add, mul-suc, arith, length, length-append, get_or}
use Rattle.std.proofs.lemmas.List.{length-replicate}
use mathlib.Core.List.{Memᴰ}
use Rattle.rows.specs.Rows.{Row}
use Rattle.rows.specs.Limits.{most_rows}
use Rattle.means.specs.Means.{sum}
use Rattle.counting.specs.Cells.{addresses_of}
use Rattle.counting.specs.Counters.{occurrences, counter_in, counters_of}
use Rattle.counting.proofs.Probes.{occurrences_append}
use Rattle.counting.proofs.Bounds.{counter_most, addresses_length}
use Rattle.tables.specs.Tables.{zeros, addresses_in, increments, Counted, counters_from}
use Rattle.tables.specs.Changes.{added, Inside, Room}
use Rattle.tables.proofs.Changes.{added_at, added_sum, added_length, zeros_at}

-- a counter is how often its address is in the lists of all rows
counter_occurs : (rows : List Row) (a : ℕ) → occurrences a (addresses_in rows) ≡ counter_in rows a
unfolding occurrences counter_in addresses_in
counter_occurs [] a = refl
counter_occurs (r ∷ rows) a =
    occurrences_append a (addresses_of r) (addresses_in rows) ∙ ap (λ z. occurrences a (addresses_of r) + z) (counter_occurs rows a)

sum_zeros : (n : ℕ) → sum (zeros n) ≡ 0
unfolding sum
sum_zeros zero = refl
sum_zeros (suc n) = zero-add (sum (zeros n)) ∙ sum_zeros n

module _ (rows : List Row) (n : ℕ) (h : Inside (addresses_in rows) n) where
  zeros_inside : Inside (addresses_in rows) (length (zeros n))
  zeros_inside = rw length-replicate h

  -- no counter passes 32 bits: it is at most 8 times the number of rows
  pub zeros_room : length rows ≤ most_rows → Room (zeros n) (addresses_in rows)
  zeros_room few =
      record {
        inside = zeros_inside;
        small = λ a. omega (arith, zeros_at n a, counter_occurs rows a, counter_most a rows);
      }

  -- the table after counting, from zeros on
  pub counted_from_zeros : Counted rows (added (addresses_in rows) (zeros n))
  counted_from_zeros =
      record {
        counters = λ a l.
            let i : a < length (zeros n) = omega (arith, added_length (addresses_in rows) (zeros n)) in
            omega (arith, added_at (addresses_in rows) (zeros n) a i, zeros_at n a, counter_occurs rows a);
        total = omega (arith, added_sum (addresses_in rows) (zeros n) zeros_inside, sum_zeros n);
      }

-- the counters of a state are those of counting over the rows, whatever state it is
same_counters : (f g : ℕ → ℕ) (xs : List ℕ) (n : ℕ) → Inside xs n → ((a : ℕ) → a < n → f a ≡ g a) → map f xs ≡ map g xs
same_counters f g [] n h e = refl
same_counters f g (x ∷ xs) n h e = rw (e x h.0, same_counters f g xs n h.1 e)

pub counters_same : {rows : List Row} {table : List ℕ} (r : Row) → Counted rows table → Inside (addresses_of r) (length table)
    → counters_from table r ≡ counters_of rows r
unfolding counters_of
counters_same {rows} {table} r c h = same_counters (λ a. get_or table a 0) (counter_in rows) (addresses_of r) (length table) h c.counters

-- at most eight increments for pc and each slot of a row
pub increments_most : (n : ℕ) (rows : List Row) → ((r : Row) → Memᴰ r rows → length r.marks ≤ n) → increments rows ≤ 8 * (1 + n) * length rows
unfolding addresses_in
increments_most n [] h = omega arith
increments_most n (r ∷ rows) h =
    let first = addresses_length r in
    let short = h r (Memᴰ.head refl) in
    let rest = increments_most n rows (λ q m. h q (Memᴰ.tail m)) in
    rw (length-append, mul-suc) (omega arith)
