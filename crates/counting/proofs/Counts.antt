-- Counting over the rows that take part, from row i on: what is left of the counter.
use Rattle.std.proofs.Common.{◌≡◌, ap, ◌∙◌, Bool, true, false, List, [], ◌∷◌, ℕ, ◌+◌, ◌<◌, ◌≤◌, add-one, arith, length, get_or, drop, drop_of_length-le, drop-cons}
use Rattle.rows.specs.Rows.{Row, row}
use Rattle.store.specs.Store.{nth_row}
use Rattle.store.specs.Lent.{rows_seen}
use Rattle.store.proofs.Rows.{length_rows}
use Rattle.counting.specs.Cells.{addresses_of}
use Rattle.counting.specs.Counters.{occurrences, counter_in, taking}
use Rattle.counting.specs.declared.taking.Taking.{Taking}

-- those of the rows from row i on that take part
abbrev pub taking_from : ℕ → Taking → List Row
taking_from i t = taking (drop i t.flags.now) (drop i (rows_seen t.store))

-- their counter
abbrev pub count_from : ℕ → Taking → ℕ → ℕ
count_from i t a = counter_in (taking_from i t) a

-- row i, and the rows after it
opened : (i : ℕ) (flags : List Bool) (rows : List Row) (b : Bool) → i < length flags → i < length rows → get_or flags i false ≡ b
    → taking (drop i flags) (drop i rows) ≡ taking (b ∷ drop (i + 1) flags) (nth_row rows i ∷ drop (i + 1) rows)
opened i flags rows b f l e = rw (add-one i, drop-cons flags i false f, drop-cons rows i (row [] []) l, e)

-- the same of a store's rows
at_row : (t : Taking) (r : ℕ) (b : Bool) → r < t.store.layout.rows → get_or t.flags.now r false ≡ b
    → taking_from r t ≡ taking (b ∷ drop (r + 1) t.flags.now) (nth_row (rows_seen t.store) r ∷ drop (r + 1) (rows_seen t.store))
at_row t r b h e =
    let s = t.store in
    opened r t.flags.now (rows_seen s) b (omega (arith, t.a_flag_each))
    (omega (arith, length_rows s.layout.rows s.layout.words s.layout.marks s.words.now s.marks.now)) e

module _ (t : Taking) {r : ℕ} (h : r < t.store.layout.rows) where
  pub row_taken : get_or t.flags.now r false ≡ true → taking_from r t ≡ nth_row (rows_seen t.store) r ∷ taking_from (r + 1) t
  unfolding taking
  row_taken e = at_row t r true h e

  pub row_passed : get_or t.flags.now r false ≡ false → taking_from r t ≡ taking_from (r + 1) t
  unfolding taking
  row_passed e = at_row t r false h e

pub none_left : (t : Taking) (r : ℕ) → t.store.layout.rows ≤ r → taking_from r t ≡ []
unfolding taking
none_left t r h = rw (drop_of_length-le t.flags.now {i = r} (omega (arith, t.a_flag_each)))

-- one turn of the loop over a store: n is the counter of the rows before row r, m that with row r, and total that of all
module _ (t : Taking) (a n : ℕ) {total r m : ℕ} (h : r < t.store.layout.rows) (i : n + count_from r t a ≡ total) where
  pub count_taken : {k : ℕ} {x : Row} → get_or t.flags.now r false ≡ true → x ≡ nth_row (rows_seen t.store) r → k ≡ occurrences a (addresses_of x)
      → m ≡ n + k → m + count_from (r + 1) t a ≡ total
  unfolding counter_in
  count_taken {k} e o q g =
      let own : k ≡ occurrences a (addresses_of (nth_row (rows_seen t.store) r)) = q ∙ ap (λ (z : Row). occurrences a (addresses_of z)) o in
      let all : count_from r t a ≡ occurrences a (addresses_of (nth_row (rows_seen t.store) r)) + count_from (r + 1) t a = ap (λ l. counter_in l a) (row_taken t h e) in
      omega arith

  pub count_passed : get_or t.flags.now r false ≡ false → m ≡ n → m + count_from (r + 1) t a ≡ total
  count_passed e g =
      let all : count_from r t a ≡ count_from (r + 1) t a = ap (λ l. counter_in l a) (row_passed t h e) in
      omega arith

-- no row is left
pub count_end : (t : Taking) (a : ℕ) {total r n : ℕ} → t.store.layout.rows ≤ r → n + count_from r t a ≡ total → n ≡ total
unfolding counter_in
count_end t a {total} {r} h i =
    let none : count_from r t a ≡ 0 = ap (λ l. counter_in l a) (none_left t r h) in
    omega arith
