-- What the moves do: parts of one list copied or exchanged, which the rows then are too, and rows that become zero.
use Rattle.std.proofs.Common.{get_or, subst, get_or-drop, get_or-take, length-set, ◌≡◌, ℕ, suc, ◌+◌, ◌-◌, ◌*◌, ◌<◌, ◌≤◌, List, [], ◌∷◌, ◌++◌, length, set, take, drop, replicate, sym, ap, ◌∙◌, append_assoc, append-nil, add-one, arith, length-append, length-drop, drop_of_length-le, length-take-le, drop-cons, drop-drop, take_at, drop_at}
use Rattle.std.proofs.Math.ListN.{get_or-append, length-replicate, replicate-append-replicate}
use Rattle.std.proofs.Math.Seq.{paste-suc, paste, length-paste, set_at, drop-append-add}
use Rattle.std.proofs.lemmas.List.{take-append-le, drop-append-le}
use borrow.Rule.Slice.PartMut.{put_mid}
use Rattle.rows.specs.Rows.{Row, row}
use Rattle.store.specs.declared.layout.Layout.{Layout}
use Rattle.store.specs.Store.{cut, nth_row, zero_row, row_copied, rows_swapped, rows_zeroed}
use Rattle.store.specs.Parts.{part_copied, parts_swapped}
use Rattle.store.proofs.Rows.{row_end, row_get, row_put, part_length}

-- ---- elements copied to a later place, the first i of them

pub record Copied {A : Type 0} (from to i : ℕ) (before now : List A) : Type 0 where
  pub same : length now ≡ length before
  pub copied : now ≡ part_copied from to i before

module _ {A : Type 0} (from to : ℕ) (before : List A) where
  -- what stands before the place is as it was
  still : (i k : ℕ) (z : A) → k < to → to ≤ length before → get_or (part_copied from to i before) k z ≡ get_or before k z
  still i k z h l =
      let t : k < length (take to before) = subst (λ (n : ℕ). k < n) (sym (length-take-le to before l)) h in
      get_or-append (take to before ++ take i (drop from before)) (drop (to + i) before) z k
      (omega (arith, length-append (take to before) (take i (drop from before))))
      ∙ get_or-append (take to before) (take i (drop from before)) z k t
      ∙ get_or-take to before k z h

  pub copy_on : (count i : ℕ) (now : List A) (x : A) → from + count ≤ to → to + count ≤ length before → i < count → x ≡ get_or now (from + i) x
      → Copied from to i before now → Copied from to (i + 1) before (set now (to + i) x)
  copy_on count i now x a l h e c =
      record {
        same = simp length-set c.same;
        copied =
            ap (λ (k : List A). set k (to + i) x) c.copied
            ∙ ap (λ (z : A). set (part_copied from to i before) (to + i) z)
            (e
            ∙ ap (λ (k : List A). get_or k (from + i) x) c.copied
            ∙ still i (from + i) x (omega arith) (omega arith)
            ∙ sym (get_or-drop from before i x))
            ∙ paste-suc before to (drop from before) i x (omega arith) (omega (arith, length-drop from before))
            ∙ ap (λ (k : ℕ). part_copied from to k before) (sym (add-one i));
      }

-- ---- two parts that change places, of a list that is lent as its first elements, `front`, and the others, `back`

-- a part of `front` and the start of `back` that change places
pub parts_trade : {A : Type 0} (front back : List A) (a b count : ℕ) → length front ≡ b → a + count ≤ b → count ≤ length back
    → (take a front ++ (take count back ++ drop count (drop a front))) ++ (take count (drop a front) ++ drop count back)
    ≡ parts_swapped a b count (front ++ back)
parts_trade {A} front back a b count e h k =
    let low = (take a front ++ take count back) ++ drop (a + count) front in
    let la : a ≤ length front = omega arith in
    let lc : a + count ≤ length front = omega arith in
    let ld : count ≤ length (drop a front) = omega (arith, length-drop a front) in
    let len : length low ≡ b =
    omega (
      arith,
      length-append (take a front ++ take count back) (drop (a + count) front),
      length-append (take a front) (take count back),
      length-take-le a front la,
      length-take-le count back k,
      length-drop (a + count) front,
    ) in
    let first : paste (front ++ back) a (drop b (front ++ back)) count ≡ low ++ back =
    rw (drop_at front back b e, take-append-le a front back la, drop-append-le (a + count) front back lc)
    (sym (append_assoc (take a front ++ take count back) (drop (a + count) front) back)) in
    let rest : drop (b + count) (low ++ back) ≡ drop count back = rw (← len) (drop-append-add low back count) in
    rw (drop-drop count a front, first, drop-append-le a front back la, take-append-le count (drop a front) back ld, take_at low back b len, rest)
    (simp append_assoc)

-- ---- rows

-- as a part that is put back, which is what the rows' laws take
paste_is_put : {A : Type 0} (d s : List A) (at n : ℕ) → paste d at s n ≡ put_mid at n d (take n s)
paste_is_put {A} d s at n =
    append_assoc (take at d) (take n s) (drop (at + n) d) ∙ ap (λ (x : List A). take at d ++ (take n s ++ x)) (sym (drop-drop n at d))

-- the elements of row `from` pasted over those of row `to`
pub rows_copy : (n w m from to : ℕ) (words marks : List ℕ) → length words ≡ n * w → length marks ≡ n * m → from < n → to < n
    → cut n w m (part_copied (from * w) (to * w) w words) (part_copied (from * m) (to * m) m marks) ≡ row_copied from to (cut n w m words marks)
rows_copy n w m from to words marks ew em hf ht =
    rw (paste_is_put words (drop (from * w) words) (to * w) w, paste_is_put marks (drop (from * m) marks) (to * m) m)
    (row_put n w m to words marks (take w (drop (from * w) words)) (take m (drop (from * m) marks)) ht ew em
    (part_length n w from words hf ew) (part_length n m from marks hf em)
    ∙ ap (λ (z : Row). set (cut n w m words marks) to z) (sym (row_get n w m from words marks hf)))

-- rows i and p, i the earlier, change places
pub rows_swap : (n w m i p : ℕ) (words marks : List ℕ) → length words ≡ n * w → length marks ≡ n * m → i < p → p < n
    → cut n w m (parts_swapped (i * w) (p * w) w words) (parts_swapped (i * m) (p * m) m marks) ≡ rows_swapped i p (cut n w m words marks)
rows_swap n w m i p words marks ew em ip h =
    let hi : i < n = omega arith in
    let ws = paste words (i * w) (drop (p * w) words) w in
    let ms = paste marks (i * m) (drop (p * m) marks) m in
    let lw : length ws ≡ n * w = pasted w words ew hi in
    let lm : length ms ≡ n * m = pasted m marks em hi in
    rw (paste_is_put ws (drop (i * w) words) (p * w) w, paste_is_put ms (drop (i * m) marks) (p * m) m)
    (row_put n w m p ws ms (take w (drop (i * w) words)) (take m (drop (i * m) marks)) h lw lm
    (part_length n w i words hi ew) (part_length n m i marks hi em)
    ∙ ap (λ (z : Row). set (cut n w m ws ms) p z) (sym (row_get n w m i words marks hi))
    ∙ ap (λ (z : List Row). set z p (nth_row (cut n w m words marks) i)) (rows_copy n w m p i words marks ew em h hi))
  where
    pasted : (k : ℕ) (l : List ℕ) → length l ≡ n * k → i < n → length (paste l (i * k) (drop (p * k) l) k) ≡ n * k
    pasted k l e hi =
        length-paste l (i * k) (drop (p * k) l) k (omega (arith, row_end n k i hi, e)) (omega (arith, length-drop (p * k) l, row_end n k p h, e)) ∙ e

-- the rows from `from` to r are zero, and the others as before
pub record Zeroed (s : Layout) (from r : ℕ) (before now : List Row) : Type 0 where
  pub past : from ≤ r
  pub within : r ≤ s.rows
  pub zeros : now ≡ (take from before ++ replicate (r - from) (zero_row s)) ++ drop r before

module _ (s : Layout) (from : ℕ) (before : List Row) where
  -- row r too
  zero_more : (z : Row) (r : ℕ) → from ≤ r → r < length before
      → set ((take from before ++ replicate (r - from) z) ++ drop r before) r z ≡ (take from before ++ replicate (r + 1 - from) z) ++ drop (r + 1) before
  zero_more z r h l =
      let head = take from before ++ replicate (r - from) z in
      let len : length head ≡ r =
      omega (arith, length-append (take from before) (replicate (r - from) z), length-take-le from before (omega arith), length-replicate (r - from) z) in
      let more : r - from + 1 ≡ r + 1 - from = omega arith in
      ap (λ (k : List Row). set (head ++ k) r z) (drop-cons before r (row [] []) l)
      ∙ set_at head (nth_row before r) (drop (suc r) before) z r len
      ∙ sym (append_assoc head (z ∷ []) (drop (suc r) before))
      ∙ ap (λ (k : List Row). k ++ drop (suc r) before)
      (append_assoc (take from before) (replicate (r - from) z) (z ∷ [])
      ∙ ap (λ (k : List Row). take from before ++ k) (replicate-append-replicate (r - from) 1 z ∙ ap (λ (k : ℕ). replicate k z) more))
      ∙ ap (λ (k : ℕ). (take from before ++ replicate (r + 1 - from) z) ++ drop k before) (sym (add-one r))

  pub zero_on : (now now' : List Row) (r : ℕ) → length before ≡ s.rows → r < s.rows
      → now' ≡ set now r (zero_row s) → Zeroed s from r before now → Zeroed s from (r + 1) before now'
  zero_on now now' r l h e c =
      record {
        past = omega (arith, c.past);
        within = omega arith;
        zeros = e ∙ ap (λ (k : List Row). set k r (zero_row s)) c.zeros ∙ zero_more (zero_row s) r c.past (subst (λ (k : ℕ). r < k) (sym l) h);
      }

  pub zero_all : (now : List Row) (r : ℕ) → length before ≡ s.rows → s.rows ≤ r → Zeroed s from r before now → now ≡ rows_zeroed s from before
  zero_all now r l h c =
      let e : r ≡ s.rows = omega (arith, c.within) in
      c.zeros
      ∙ ap (λ (k : List Row). (take from before ++ replicate (r - from) (zero_row s)) ++ k) (drop_of_length-le before {i = r} (omega arith))
      ∙ append-nil (take from before ++ replicate (r - from) (zero_row s))
      ∙ ap (λ (k : ℕ). take from before ++ replicate (k - from) (zero_row s)) e
