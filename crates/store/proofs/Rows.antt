-- Two flat lists cut into rows: reading and writing row r is `nth_row` and `set` on the list of rows, and the rows determine the two lists.
use Rattle.std.proofs.Common.{◌≡◌, refl, sym, ap, ◌∙◌, subst, List, [], ◌∷◌, ◌++◌, append_assoc, ℕ, zero, suc, ◌+◌, ◌*◌, ◌-◌, ◌≤◌, ◌<◌, zero-mul, suc-mul, add_comm, mul-le-mul_right, le_of_suc-le-suc, not-suc-le-zero, arith, length, set, take, drop, length-drop, take-append-drop, take_at, drop_at, take-add, drop-drop, length-take-le}
use Rattle.std.proofs.Math.Nat.{add-sub_cancel_left}
use borrow.Rule.Slice.PartMut.{put_mid}
use Rattle.rows.specs.Rows.{Row, row, Shape}
use Rattle.store.specs.declared.layout.Layout.{Layout}
use Rattle.store.specs.Store.{cut, rows_of, words_of, marks_of, nth_row, Fit}

-- row r ends within the store
pub row_end : (n k r : ℕ) → r < n → r * k + k ≤ n * k
row_end n k r h = subst (λ (z : ℕ). z ≤ n * k) (suc-mul r k) (mul-le-mul_right k h)

-- the part of row r has k elements
pub part_length : {A : Type 0} (n k r : ℕ) (l : List A) → r < n → length l ≡ n * k → length (take k (drop (r * k) l)) ≡ k
part_length n k r l h e =
    length-take-le k (drop (r * k) l) (subst (λ (z : ℕ). k ≤ z) (sym (length-drop (r * k) l)) (omega (arith, row_end n k r h)))

-- the part of row r + 1 is that of row r in the rest; so is a list with x in its place
next_part : {A : Type 0} (k r : ℕ) (l : List A) → take k (drop (r * k) (drop k l)) ≡ take k (drop (suc r * k) l)
next_part {A} k r l = ap (λ (z : List A). take k z) (drop-drop (r * k) k l ∙ ap (λ (i : ℕ). drop i l) (add_comm k (r * k) ∙ sym (suc-mul r k)))

next_put : {A : Type 0} (k r : ℕ) (l x : List A) → put_mid (suc r * k) k l x ≡ take k l ++ put_mid (r * k) k (drop k l) x
next_put {A} k r l x =
    ap (λ (i : ℕ). put_mid i k l x) (suc-mul r k ∙ add_comm (r * k) k)
    ∙ ap (λ (z : List A). z ++ (x ++ drop k (drop (k + r * k) l))) (take-add k (r * k) l)
    ∙ ap (λ (z : List A). (take k l ++ take (r * k) (drop k l)) ++ (x ++ drop k z)) (sym (drop-drop (r * k) k l))
    ∙ append_assoc (take k l) (take (r * k) (drop k l)) (x ++ drop k (drop (r * k) (drop k l)))

-- the first of n + 1 rows, and the others
first_length : {A : Type 0} (n k : ℕ) (l : List A) → length l ≡ suc n * k → length (take k l) ≡ k
first_length n k l e = length-take-le k l (omega (arith, suc-mul n k))

rest_length : {A : Type 0} (n k : ℕ) (l : List A) → length l ≡ suc n * k → length (drop k l) ≡ n * k
rest_length n k l e = length-drop k l ∙ omega (arith, suc-mul n k)

pub length_rows : (n w m : ℕ) (words marks : List ℕ) → length (cut n w m words marks) ≡ n
unfolding cut
length_rows zero w m words marks = refl
length_rows (suc n) w m words marks = ap suc (length_rows n w m (drop w words) (drop m marks))

pub row_get : (n w m r : ℕ) (words marks : List ℕ) → r < n
    → nth_row (cut n w m words marks) r ≡ row (take w (drop (r * w) words)) (take m (drop (r * m) marks))
unfolding cut
row_get zero w m r words marks h = absurd (not-suc-le-zero h)
row_get (suc n) w m zero words marks h = rw (zero-mul w, zero-mul m)
row_get (suc n) w m (suc r) words marks h =
    row_get n w m r (drop w words) (drop m marks) (le_of_suc-le-suc h)
    ∙ rw (next_part w r words, next_part m r marks)

-- to write both parts of row r is to set the row
pub row_put : (n w m r : ℕ) (words marks x y : List ℕ) → r < n → length words ≡ n * w → length marks ≡ n * m → length x ≡ w → length y ≡ m
    → cut n w m (put_mid (r * w) w words x) (put_mid (r * m) m marks y) ≡ set (cut n w m words marks) r (row x y)
unfolding cut
row_put zero w m r words marks x y h ew em ex ey = absurd (not-suc-le-zero h)
row_put (suc n) w m zero words marks x y h ew em ex ey =
    rw (zero-mul w, zero-mul m, take_at x (drop w words) w ex, take_at y (drop m marks) m ey, drop_at x (drop w words) w ex, drop_at y (drop m marks) m ey)
row_put (suc n) w m (suc r) words marks x y h ew em ex ey =
    let ws = put_mid (r * w) w (drop w words) x in
    let ms = put_mid (r * m) m (drop m marks) y in
    let lw : length (take w words) ≡ w = first_length n w words ew in
    let lm : length (take m marks) ≡ m = first_length n m marks em in
    let rest = row_put n w m r (drop w words) (drop m marks) x y (le_of_suc-le-suc h) (rest_length n w words ew) (rest_length n m marks em) ex ey in
    rw (
      next_put w r words x,
      next_put m r marks y,
      take_at (take w words) ws w lw,
      take_at (take m marks) ms m lm,
      drop_at (take w words) ws w lw,
      drop_at (take m marks) ms m lm,
    ) (ap (λ (z : List Row). row (take w words) (take m marks) ∷ z) rest)

-- each of some rows has w words and m marks
pub record Even (w m : ℕ) (rows : List Row) : Type 0 where
  pub words_each : (r : ℕ) → r < length rows → length (nth_row rows r).words ≡ w
  pub marks_each : (r : ℕ) → r < length rows → length (nth_row rows r).marks ≡ m

pub cut_even : (n w m : ℕ) (words marks : List ℕ) → length words ≡ n * w → length marks ≡ n * m → Even w m (cut n w m words marks)
cut_even n w m words marks ew em =
    let within : (r : ℕ) → r < length (cut n w m words marks) → r < n = λ r h. subst (λ (z : ℕ). r < z) (length_rows n w m words marks) h in
    record {
      words_each = λ r h. ap (λ (z : Row). length z.words) (row_get n w m r words marks (within r h)) ∙ part_length n w r words (within r h) ew;
      marks_each = λ r h. ap (λ (z : Row). length z.marks) (row_get n w m r words marks (within r h)) ∙ part_length n m r marks (within r h) em;
    }

-- the rows after the first
pub rest_even : (w m : ℕ) (r : Row) (rows : List Row) → Even w m (r ∷ rows) → Even w m rows
rest_even w m r rows e = record { words_each = λ i h. e.words_each (suc i) (omega arith); marks_each = λ i h. e.marks_each (suc i) (omega arith) }

-- the rows determine the two lists
pub words_flat : (n w m : ℕ) (words marks : List ℕ) → length words ≡ n * w → words_of (cut n w m words marks) ≡ words
unfolding cut words_of
words_flat zero w m [] marks e = refl
words_flat zero w m (x ∷ words) marks e = absurd (omega (arith, e, zero-mul w))
words_flat (suc n) w m words marks e =
    ap (λ (z : List ℕ). take w words ++ z) (words_flat n w m (drop w words) (drop m marks) (rest_length n w words e)) ∙ take-append-drop w words

pub marks_flat : (n w m : ℕ) (words marks : List ℕ) → length marks ≡ n * m → marks_of (cut n w m words marks) ≡ marks
unfolding cut marks_of
marks_flat zero w m words [] e = refl
marks_flat zero w m words (x ∷ marks) e = absurd (omega (arith, e, zero-mul m))
marks_flat (suc n) w m words marks e =
    ap (λ (z : List ℕ). take m marks ++ z) (marks_flat n w m (drop w words) (drop m marks) (rest_length n m marks e)) ∙ take-append-drop m marks

-- and the two lists the rows
pub cut_flat : (w m : ℕ) (rows : List Row) → Even w m rows → cut (length rows) w m (words_of rows) (marks_of rows) ≡ rows
unfolding cut words_of marks_of
cut_flat w m [] e = refl
cut_flat w m (r ∷ rows) e =
    let lw = e.words_each 0 (omega arith) in
    let lm = e.marks_each 0 (omega arith) in
    rw (take_at r.words (words_of rows) w lw, take_at r.marks (marks_of rows) m lm, drop_at r.words (words_of rows) w lw, drop_at r.marks (marks_of rows) m lm)
    (ap (λ (z : List Row). r ∷ z) (cut_flat w m rows (rest_even w m r rows e)))

-- two stores of the same rows are the same lists
pub words_same : (n w m : ℕ) (words marks words' marks' : List ℕ) → length words ≡ n * w → length words' ≡ n * w
    → cut n w m words marks ≡ cut n w m words' marks' → words ≡ words'
words_same n w m words marks words' marks' e e' s = sym (words_flat n w m words marks e) ∙ ap words_of s ∙ words_flat n w m words' marks' e'

pub marks_same : (n w m : ℕ) (words marks words' marks' : List ℕ) → length marks ≡ n * m → length marks' ≡ n * m
    → cut n w m words marks ≡ cut n w m words' marks' → marks ≡ marks'
marks_same n w m words marks words' marks' e e' s = sym (marks_flat n w m words marks e) ∙ ap marks_of s ∙ marks_flat n w m words' marks' e'

-- the part of row r as the borrow checker says it of `&mut l[a..a + k]`, with `let a = r * k`
abbrev pub lent : ℕ → ℕ → List ℕ → List ℕ
lent k r l = take (r * k + k - r * k) (drop (r * k) l)

-- and the list when x comes back for that part
abbrev pub given_back : ℕ → ℕ → List ℕ → List ℕ → List ℕ
given_back k r l x = put_mid (r * k) (r * k + k - r * k) l x

lent_is_part : (k r : ℕ) (l : List ℕ) → lent k r l ≡ take k (drop (r * k) l)
lent_is_part k r l = ap (λ (i : ℕ). take i (drop (r * k) l)) (add-sub_cancel_left (r * k) k)

-- row r of a store: where it ends, what is lent, and what comes back
module _ {s : Layout} {words marks : List ℕ} (f : Fit s words marks) (r : ℕ) (h : r < s.rows) where
  pub words_end : r * s.words + s.words ≤ length words
  words_end = omega (arith, row_end s.rows s.words r h, f.all_words)

  pub marks_end : r * s.marks + s.marks ≤ length marks
  marks_end = omega (arith, row_end s.rows s.marks r h, f.all_marks)

  pub words_of_row : length (take s.words (drop (r * s.words) words)) ≡ s.words
  words_of_row = part_length s.rows s.words r words h f.all_words

  pub marks_of_row : length (take s.marks (drop (r * s.marks) marks)) ≡ s.marks
  marks_of_row = part_length s.rows s.marks r marks h f.all_marks

  pub lent_words : length (lent s.words r words) ≡ s.words
  lent_words = ap length (lent_is_part s.words r words) ∙ words_of_row

  pub lent_marks : length (lent s.marks r marks) ≡ s.marks
  lent_marks = ap length (lent_is_part s.marks r marks) ∙ marks_of_row

  pub lent_shape : Shape (lent s.words r words) (lent s.marks r marks)
  lent_shape = record { registers = omega (arith, lent_marks, f.sized.registers); slots = omega (arith, lent_words, lent_marks, f.sized.slots) }

  -- the two parts are row r
  pub lent_row : row (lent s.words r words) (lent s.marks r marks) ≡ nth_row (rows_of s words marks) r
  lent_row =
      rw (lent_is_part s.words r words, lent_is_part s.marks r marks) (sym (row_get s.rows s.words s.marks r words marks h))

  -- what comes back is the row that is set
  pub row_back : (x y : List ℕ) → length x ≡ length (lent s.words r words) → length y ≡ length (lent s.marks r marks)
      → rows_of s (given_back s.words r words x) (given_back s.marks r marks y) ≡ set (rows_of s words marks) r (row x y)
  row_back x y ex ey =
      rw (add-sub_cancel_left (r * s.words) s.words, add-sub_cancel_left (r * s.marks) s.marks)
      (row_put s.rows s.words s.marks r words marks x y h f.all_words f.all_marks (ex ∙ lent_words) (ey ∙ lent_marks))
