-- Two rows that change places, in the rows and in the list of which row is at each place; and the loop of them.
use Rattle.std.proofs.Common.{Bool, true, false, List, [], ◌≡◌, refl, sym, ap, ◌∙◌, subst, ℕ, ◌+◌, ◌≤◌, ◌<◌, lt_of_lt_of_le, not-suc-le-zero, arith, below_more, eqb-true, ltb-true, ltb-false, eqb, ltb, length, get_or, take, set, length-set, get_or-set_same, get_or-set_other, get_or-take, ext_get_or, length-take-le}
use Rattle.std.proofs.lemmas.Bool.{eqb-false}
use Rattle.std.proofs.Math.ListN.{length-map}
use Rattle.laws.proofs.Lists.{map_get}
use Rattle.rows.specs.Rows.{Row, row}
use Rattle.store.specs.Store.{nth_row, rows_swapped}
use Rattle.selection.specs.Places.{Numbers, Own, Inverse, rows_numbered}

less_not : {a b : ℕ} → a < b → a ≡ b → ⊥
less_not l e = omega arith

-- k is b, or else a, or else neither
data Where (b a k : ℕ) : Type 0 where
  first : k ≡ b → Where b a k
  second : (k ≡ b → ⊥) → k ≡ a → Where b a k
  other : (k ≡ b → ⊥) → (k ≡ a → ⊥) → Where b a k

find : (b a k : ℕ) → Where b a k
find b a k = go (eqb k b) refl (eqb k a) refl
  where
    go : (s : Bool) → eqb k b ≡ s → (t : Bool) → eqb k a ≡ t → Where b a k
    go true e t f = first (eqb-true k b e)
    go false e true f = second (eqb-false k b e) (eqb-true k a f)
    go false e false f = other (eqb-false k b e) (eqb-false k a f)

-- x set at a, then y at b
module _ {A : Type 0} (l : List A) (a b : ℕ) (x y d : A) where
  abbrev both : List A
  both = set (set l a x) b y

  at_first : (k : ℕ) → k ≡ b → b < length l → get_or both k d ≡ y
  at_first k e h =
      ap (λ (j : ℕ). get_or both j d) e ∙ get_or-set_same (set l a x) b y d (subst (λ (j : ℕ). b < j) (sym (length-set l a x)) h)

  at_second : (k : ℕ) → (k ≡ b → ⊥) → k ≡ a → a < length l → get_or both k d ≡ x
  at_second k n e h = get_or-set_other (set l a x) b k y d n ∙ ap (λ (j : ℕ). get_or (set l a x) j d) e ∙ get_or-set_same l a x d h

  at_other : (k : ℕ) → (k ≡ b → ⊥) → (k ≡ a → ⊥) → get_or both k d ≡ get_or l k d
  at_other k n m = get_or-set_other (set l a x) b k y d n ∙ get_or-set_other l a k x d m

-- row `incoming` comes to `place`, and the row that is there goes where `incoming` was
module _ {n : ℕ} {place_of row_at : List ℕ} (M : Inverse n place_of row_at) (place incoming : ℕ) (h_place : place < n) (h_incoming : incoming < n) where
  abbrev from : ℕ
  from = get_or place_of incoming 0

  abbrev displaced : ℕ
  displaced = get_or row_at place 0

  abbrev row_at' : List ℕ
  row_at' = set (set row_at from displaced) place incoming

  h_from : from < n
  h_from = M.place_of_in incoming h_incoming

  -- the two may be one row
  one : from ≡ place → displaced ≡ incoming
  one e = ap (λ (k : ℕ). get_or row_at k 0) (sym e) ∙ M.back incoming h_incoming

  -- what the list has now
  row_at_first : (q : ℕ) → q ≡ place → get_or row_at' q 0 ≡ incoming
  row_at_first q e = at_first row_at from place displaced incoming 0 q e (lt_of_lt_of_le h_place M.row_at_all)

  row_at_second : (q : ℕ) → (q ≡ place → ⊥) → q ≡ from → get_or row_at' q 0 ≡ displaced
  row_at_second q m e = at_second row_at from place displaced incoming 0 q m e (lt_of_lt_of_le h_from M.row_at_all)

  row_at_other : (q : ℕ) → (q ≡ place → ⊥) → (q ≡ from → ⊥) → get_or row_at' q 0 ≡ get_or row_at q 0
  row_at_other q m m' = at_other row_at from place displaced incoming 0 q m m'

  -- and the rows, of which these are the numbers
  module _ (start rows : List Row) (all : length rows ≡ n)
      (moved : (q : ℕ) → q < n → nth_row rows q ≡ nth_row start (get_or row_at q 0)) where
    moved' : (q : ℕ) → q < n → Where from place q → nth_row (rows_swapped place from rows) q ≡ nth_row start (get_or row_at' q 0)
    moved' q h (first e) =
        at_first rows place from (nth_row rows from) (nth_row rows place) (row [] []) q e (subst (λ (k : ℕ). from < k) (sym all) h_from)
        ∙ moved place h_place
        ∙ ap (λ (k : ℕ). nth_row start k) (sym (now_from (find place from q)))
      where
        now_from : Where place from q → get_or row_at' q 0 ≡ displaced
        now_from (first f) = row_at_first q f ∙ sym (one (sym e ∙ f))
        now_from (second m f) = row_at_second q m f
        now_from (other m m') = absurd (m' e)
    moved' q h (second m e) =
        at_second rows place from (nth_row rows from) (nth_row rows place) (row [] []) q m e (subst (λ (k : ℕ). place < k) (sym all) h_place)
        ∙ moved from h_from
        ∙ ap (λ (k : ℕ). nth_row start k) (M.back incoming h_incoming ∙ sym (row_at_first q e))
    moved' q h (other m m') =
        at_other rows place from (nth_row rows from) (nth_row rows place) (row [] []) q m m'
        ∙ moved q h
        ∙ ap (λ (k : ℕ). nth_row start k) (sym (row_at_other q m' m))

-- ---- the loop

pub record Placing (n : ℕ) (order row_at : List ℕ) (start rows : List Row) (place : ℕ) : Type 0 where
  pub all : length rows ≡ n
  pub moved : (q : ℕ) → q < n → nth_row rows q ≡ nth_row start (get_or row_at q 0)
  pub done : (j : ℕ) → j < place → get_or row_at j 0 ≡ get_or order j 0

pub place_starts : {n : ℕ} (order : List ℕ) {row_at : List ℕ} {rows : List Row} → length rows ≡ n → Own n row_at → Placing n order row_at rows rows 0
place_starts order {row_at} {rows} all o =
    record { all = all; moved = λ q h. ap (λ (k : ℕ). nth_row rows k) (sym (o.own q h)); done = λ j h. absurd (not-suc-le-zero h) }

module _ {n : ℕ} {order row_at : List ℕ} {start rows : List Row} {place : ℕ} (N : Numbers n order)
    (S : Placing n order row_at start rows place) where
  module _ {m : ℕ} {place_of : List ℕ} (same : m ≡ n) (I : Inverse m place_of row_at) (h : place < length order) where
    M : Inverse n place_of row_at
    M = subst (λ (k : ℕ). Inverse k place_of row_at) same I

    abbrev incoming : ℕ
    incoming = get_or order place 0

    h_incoming : incoming < n
    h_incoming = N.within place h

    h_place : place < n
    h_place = omega (arith, N.few)

    -- the next row is not among those that are placed
    not_placed : place ≤ get_or place_of incoming 0
    not_placed = go (ltb (get_or place_of incoming 0) place) refl
      where
        go : (t : Bool) → ltb (get_or place_of incoming 0) place ≡ t → place ≤ get_or place_of incoming 0
        go true e =
            let l = ltb-true (get_or place_of incoming 0) place e in
            absurd (N.apart (get_or place_of incoming 0) place l h (sym (S.done (get_or place_of incoming 0) l) ∙ M.back incoming h_incoming))
        go false e = ltb-false (get_or place_of incoming 0) place e

    -- what a turn leaves
    pub place_turn : (row_at' : List ℕ) (rows' : List Row)
        → row_at' ≡ set (set row_at (get_or place_of incoming 0) (get_or row_at place 0)) place incoming
        → rows' ≡ rows_swapped place (get_or place_of incoming 0) rows → Placing n order row_at' start rows' (place + 1)
    place_turn row_at' rows' ew er =
        record {
          all = rw er (simp length-set S.all);
          moved = rw (er, ew) (λ q l. moved' M place incoming h_place h_incoming start rows S.all S.moved q l (find (get_or place_of incoming 0) place q));
          done =
              below_more (λ (j : ℕ). get_or row_at' j 0 ≡ get_or order j 0) place
              (λ j l.
              ap (λ (z : List ℕ). get_or z j 0) ew
              ∙ row_at_other M place incoming h_place h_incoming j (less_not l) (less_not (lt_of_lt_of_le l not_placed))
              ∙ S.done j l)
              (ap (λ (z : List ℕ). get_or z place 0) ew ∙ row_at_first M place incoming h_place h_incoming place refl);
        }

  pub placed : length order ≤ place → take (length order) rows ≡ rows_numbered order start
  placed h =
      let la : length (take (length order) rows) ≡ length order = length-take-le (length order) rows (omega (arith, N.few, S.all)) in
      ext_get_or (row [] []) (take (length order) rows) (rows_numbered order start) (la ∙ sym (length-map order (nth_row start)))
      (λ j l.
      let jo : j < length order = omega (arith, la) in
      get_or-take (length order) rows j (row [] []) jo
      ∙ S.moved j (omega (arith, N.few))
      ∙ ap (λ (k : ℕ). nth_row start k) (S.done j (omega arith))
      ∙ sym (map_get (nth_row start) order j 0 (row [] []) jo))
