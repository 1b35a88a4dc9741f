-- A store of which the first rows are known and the others are zero; and these first rows grown by one, which is a turn of either loop of filling.
use Rattle.std.proofs.Common.{◌≡◌, ℕ, suc, ◌+◌, ◌-◌, ◌%◌, ◌<◌, ◌≤◌, List, [], ◌∷◌, ◌++◌, map, length, get_or, take, set, replicate, sym, ap, ◌∙◌, subst, append_assoc, add-zero, mod-lt, add-one, arith, length-append, length-take-le, take-suc, take_at, get_or-append-add}
use Rattle.std.proofs.lemmas.List.{map-append}
use Rattle.std.proofs.Math.ListN.{length-map, length-replicate, get_or-append, get_or-replicate, replicate-append-replicate}
use Rattle.std.proofs.Math.Seq.{append_snoc, set-append_seam}
use Rattle.rows.specs.Rows.{Row, row, set_born}
use Rattle.loader.specs.Loading.{Program, new_executor}
use Rattle.store.specs.declared.layout.Layout.{Layout}
use Rattle.store.specs.declared.view.StoreMut.{StoreMut}
use Rattle.store.specs.Store.{nth_row, zero_row}
use Rattle.store.specs.Lent.{rows_lent}
use Rattle.store.proofs.Rows.{length_rows}
use Rattle.rounds.specs.Rounds.{stored, parent}
use Rattle.rounds.specs.Handed.{Holding}
use Rattle.filling.specs.Filling.{with_copies, created_anew, with_new}

pub record Front (s : Layout) (front now : List Row) : Type 0 where
  pub few : length front ≤ s.rows
  pub rows : now ≡ stored s front

-- ---- what `Holding` says, as a front

module _ {s : StoreMut} {kept : ℕ} (h : Holding s kept) where
  pub kept_length : length (take kept (rows_lent s)) ≡ kept
  kept_length =
      length-take-le kept (rows_lent s)
      (subst (λ (k : ℕ). kept ≤ k) (sym (length_rows s.layout.rows s.layout.words s.layout.marks s.words.now s.marks.now)) h.few)

pub front_taken : {s : Layout} {front now : List Row} (n : ℕ) → length front ≡ n → Front s front now → take n now ≡ front
front_taken {s} {front} n l f = ap (λ (k : List Row). take n k) f.rows ∙ take_at front (replicate (s.rows - length front) (zero_row s)) n l

pub front_holds : {s : StoreMut} {front : List Row} (n : ℕ) → length front ≡ n → Front s.layout front (rows_lent s) → Holding s n
front_holds {s} n l f =
    record {
      few = subst (λ (k : ℕ). k ≤ s.layout.rows) l f.few;
      rest = f.rows ∙ ap (λ (k : List Row). stored s.layout k) (sym (front_taken n l f));
    }

-- ---- one row more

module _ (s : Layout) (front : List Row) where
  row_within : (i : ℕ) → i < length front → nth_row (stored s front) i ≡ nth_row front i
  row_within i h = get_or-append front (replicate (s.rows - length front) (zero_row s)) (row [] []) i h

  row_next : length front < s.rows → nth_row (stored s front) (length front) ≡ zero_row s
  row_next h =
      ap (λ (k : ℕ). nth_row (stored s front) k) (sym (add-zero (length front)))
      ∙ get_or-append-add front (replicate (s.rows - length front) (zero_row s)) 0 (row [] [])
      ∙ get_or-replicate (s.rows - length front) 0 (zero_row s) (row [] []) (omega arith)

  stored_more : (x : Row) → length front < s.rows → set (stored s front) (length front) x ≡ stored s (front ++ (x ∷ []))
  stored_more x h =
      let z = zero_row s in
      let k = s.rows - length front - 1 in
      let here : s.rows - length front ≡ suc k = omega arith in
      let there : k ≡ s.rows - length (front ++ (x ∷ [])) = omega (arith, length-append front (x ∷ [])) in
      ap (λ (i : ℕ). set (front ++ replicate i z) (length front) x) here
      ∙ set-append_seam front z (replicate k z) x
      ∙ sym (append_snoc front x (replicate k z))
      ∙ ap (λ (i : ℕ). (front ++ (x ∷ [])) ++ replicate i z) there

-- row `at`, the first of the zero rows, is set
front_more : {s : Layout} {front now now' : List Row} (at : ℕ) (x : Row)
    → at ≡ length front → at < s.rows → now' ≡ set now at x → Front s front now → Front s (front ++ (x ∷ [])) now'
front_more {s} {front} at x l h e f =
    record {
      few = omega (arith, length-append front (x ∷ []));
      rows = e ∙ ap (λ (k : List Row). set k at x) f.rows ∙ ap (λ (i : ℕ). set (stored s front) i x) l ∙ stored_more s front x (omega arith);
    }

-- ---- copies

pub with_copies_length : (kept : List Row) (draws : List ℕ) → length (with_copies kept draws) ≡ length kept + length draws
with_copies_length kept draws = length-append kept (map (parent kept) draws) ∙ ap (λ (n : ℕ). length kept + n) (length-map draws (parent kept))

module _ (s : Layout) (kept : List Row) (draws : List ℕ) where
  with_one_more : (i : ℕ) → i < length draws → with_copies kept (take i draws) ++ (parent kept (get_or draws i 0) ∷ []) ≡ with_copies kept (take (i + 1) draws)
  with_one_more i h =
      append_assoc kept (map (parent kept) (take i draws)) (parent kept (get_or draws i 0) ∷ [])
      ∙ ap (λ (l : List Row). kept ++ l) (sym (map-append (parent kept) (take i draws) (get_or draws i 0 ∷ [])))
      ∙ ap (λ (l : List ℕ). with_copies kept l) (sym (take-suc draws i 0 h) ∙ ap (λ (n : ℕ). take n draws) (sym (add-one i)))

  -- turn i copies the row that draw i, which is x, names
  pub copy_more : {now now' : List Row} (n i x : ℕ) → length kept ≡ n → 0 < n → i < length draws → n + i < s.rows
      → x ≡ get_or draws i 0 → now' ≡ set now (n + i) (nth_row now (x % n))
      → Front s (with_copies kept (take i draws)) now → Front s (with_copies kept (take (i + 1) draws)) now'
  copy_more {now} {now'} n i x l some h last drawn e f =
      let front = with_copies kept (take i draws) in
      let t = x % n in
      let small : t < length kept = subst (λ (k : ℕ). t < k) (sym l) (mod-lt x some) in
      let long : length front ≡ n + i = with_copies_length kept (take i draws) ∙ omega (arith, length-take-le i draws (omega arith)) in
      let copied : nth_row now t ≡ parent kept (get_or draws i 0) =
      ap (λ (k : List Row). nth_row k t) f.rows
      ∙ row_within s front t (omega arith)
      ∙ get_or-append kept (map (parent kept) (take i draws)) (row [] []) t small
      ∙ ap (λ (k : ℕ). nth_row kept (k % n)) drawn
      ∙ ap (λ (k : ℕ). nth_row kept (get_or draws i 0 % k)) (sym l) in
      subst (λ (k : List Row). Front s k now') (with_one_more i h)
      (front_more (n + i) (parent kept (get_or draws i 0)) (sym long) last (e ∙ ap (λ (k : Row). set now (n + i) k) copied) f)

-- ---- new executors

module _ (s : Layout) (front : List Row) (number : ℕ) (p : Program) where
  abbrev new : Row
  new = set_born number (new_executor p s.words s.marks)

  abbrev grown : ℕ → List Row
  grown n = with_new s number p front n

  with_new_length : (n : ℕ) → length (grown n) ≡ length front + n
  with_new_length n =
      length-append front (replicate n new)
      ∙ ap (λ (k : ℕ). length front + k) (length-replicate n new)

  -- a program in the first zero row
  pub new_more : {now now' : List Row} (from r : ℕ) → length front ≡ from → from ≤ r → r < s.rows
      → now' ≡ set now r (created_anew number p (nth_row now r)) → Front s (grown (r - from)) now → Front s (grown (r + 1 - from)) now'
  unfolding new_executor
  new_more {now} {now'} from r l past h e f =
      let long : r ≡ length (grown (r - from)) = omega (arith, with_new_length (r - from)) in
      let more : r - from + 1 ≡ r + 1 - from = omega arith in
      let zero : nth_row now r ≡ zero_row s =
      ap (λ (k : List Row). nth_row k r) f.rows
      ∙ ap (λ (k : ℕ). nth_row (stored s (grown (r - from))) k) long
      ∙ row_next s (grown (r - from)) (omega arith) in
      subst (λ (k : List Row). Front s k now')
      (append_assoc front (replicate (r - from) new) (new ∷ [])
      ∙ ap (λ (k : List Row). front ++ k) (replicate-append-replicate (r - from) 1 new ∙ ap (λ (n : ℕ). replicate n new) more))
      (front_more r new long h (e ∙ ap (λ (k : Row). set now r (created_anew number p k)) zero) f)
