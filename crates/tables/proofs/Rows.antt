-- The loops over the rows that take part: what is left to be done from row r on, and a gap noted for each row.
use Rattle.std.proofs.Common.{◌≡◌, refl, ap, ◌∙◌, Bool, true, false, List, [], ◌++◌, ℕ, ◌+◌, ◌≤◌, ◌<◌, arith, eqb, eqb-true, length, length-append, get_or, get_or-set_same, get_or-set_other, set}
use Rattle.std.proofs.lemmas.Bool.{eqb-false}
use Rattle.rows.specs.Rows.{Row}
use Rattle.store.specs.Store.{nth_row}
use Rattle.store.specs.Lent.{rows_seen}
use Rattle.marked.specs.Gaps.{no_gap, GapIn}
use Rattle.marked.specs.declared.gap.Gap.{Gap}
use Rattle.counting.specs.Cells.{addresses_of}
use Rattle.counting.specs.declared.taking.Taking.{Taking}
use Rattle.counting.proofs.Counts.{taking_from, row_taken, row_passed, none_left}
use Rattle.tables.specs.Tables.{addresses_in}
use Rattle.tables.specs.Changes.{changed, added, Inside, Room}
use Rattle.tables.specs.Gaps.{GapEach}
use Rattle.tables.proofs.Changes.{changed_append, inside_left, inside_right, room_left, room_right}

-- the addresses from row r on
abbrev pub left_from : ℕ → Taking → List ℕ
left_from r t = addresses_in (taking_from r t)

pub nothing_left : (t : Taking) (r : ℕ) → t.store.layout.rows ≤ r → left_from r t ≡ []
unfolding addresses_in
nothing_left t r h = ap addresses_in (none_left t r h)

-- a row that takes part
module _ (t : Taking) {r : ℕ} (h : r < t.store.layout.rows) (flag : get_or t.flags.now r false ≡ true) {x : Row} (is : x ≡ nth_row (rows_seen t.store) r) where
  left_taken : left_from r t ≡ addresses_of x ++ left_from (r + 1) t
  unfolding addresses_in
  left_taken = ap addresses_in (row_taken t h flag) ∙ rw is refl

  pub row_room : {table : List ℕ} → Room table (left_from r t) → Room table (addresses_of x)
  row_room k = room_left (addresses_of x) (left_from (r + 1) t) (rw left_taken at k)

  pub rest_room : {table next : List ℕ} → Room table (left_from r t) → next ≡ added (addresses_of x) table → Room next (left_from (r + 1) t)
  rest_room k e = room_right (addresses_of x) (left_from (r + 1) t) e (rw left_taken at k)

  pub row_changed : (f : ℕ → ℕ) (table : List ℕ) {next all : List ℕ} → changed f (left_from r t) table ≡ all → next ≡ changed f (addresses_of x) table
      → changed f (left_from (r + 1) t) next ≡ all
  row_changed f table k e =
      rw (e, ← changed_append f (addresses_of x) (left_from (r + 1) t) table) (rw left_taken at k)

  pub row_counted : (n : ℕ) {k all : ℕ} → n + length (left_from r t) ≡ all → k ≡ length (addresses_of x) → n + k + length (left_from (r + 1) t) ≡ all
  row_counted n i e =
      let both : length (left_from r t) ≡ length (addresses_of x) + length (left_from (r + 1) t) =
      ap length left_taken ∙ length-append (addresses_of x) (left_from (r + 1) t) in
      omega arith

  pub row_inside : (n : ℕ) → Inside (left_from r t) n → Inside (addresses_of x) n
  row_inside n k = inside_left (addresses_of x) (left_from (r + 1) t) n (rw left_taken at k)

  pub rest_inside : (n : ℕ) → Inside (left_from r t) n → Inside (left_from (r + 1) t) n
  rest_inside n k = inside_right (addresses_of x) (left_from (r + 1) t) n (rw left_taken at k)

-- one that does not
pub left_passed : (t : Taking) {r : ℕ} → r < t.store.layout.rows → get_or t.flags.now r false ≡ false → left_from r t ≡ left_from (r + 1) t
left_passed t h flag = ap addresses_in (row_passed t h flag)

-- a gap is noted
pub gap_noted : {rows : List Row} {gaps next : List Gap} {r : ℕ} {g : Gap} {x : Row} → GapEach rows gaps → r < length gaps → x ≡ nth_row rows r
    → GapIn x.marks g → next ≡ set gaps r g → GapEach rows next
gap_noted {rows} {gaps} {next} {r} {g} {x} each h is k e = rw e (record { each = λ i. go i (eqb i r) refl })
  where
    go : (i : ℕ) (b : Bool) → eqb i r ≡ b → GapIn (nth_row rows i).marks (get_or (set gaps r g) i no_gap)
    go i true q =
        let here : i ≡ r = eqb-true i r q in
        rw (here, get_or-set_same gaps r g no_gap h, ← is) k
    go i false q = rw (get_or-set_other gaps r i g no_gap (eqb-false i r q)) (each.each i)
