-- Rows that differ in their limit, one of them on a tape and the other on what is left of it, are alike: no instruction reads or writes a limit, and what one
-- draws the other draws.
use Rattle.std.proofs.Common.{Bool, true, false, List, ◌≡◌, refl, sym, ap, ◌∙◌, subst, ℕ, ◌+◌, ◌-◌, ◌<◌, arith, ltb, ltb-true, ltb-false, lt-ltb, le-ltb, get_or, set, drop, length, length-set, length-drop, get_or-drop, get_or-set_other, drop-set-lt}
use Rattle.std.proofs.Math.Seq.{set_comm}
use Rattle.values.specs.Values.{value_at}
use Rattle.values.specs.declared.Value.{Value}
use Rattle.rows.specs.Rows.{Row, row, header, memory_words, log_start, log_room, log_count, set_word, set_limit, set_log_count, word_of, mark_of, set_slot}
use Rattle.reading.specs.Reading.{drawn}
use Rattle.invariants.proofs.Alike.{Same, logged}
use Rattle.invariants.proofs.AlikeReading.{Drawing}

-- a place of the rest of a tape is inside where its place in the tape is
ltb_rest : (k v n : ℕ) → ltb (k + v) n ≡ ltb v (n - k)
ltb_rest k v n = go (ltb v (n - k)) refl
  where
    go : (b : Bool) → ltb v (n - k) ≡ b → ltb (k + v) n ≡ b
    go true e = let h = ltb-true v (n - k) e in lt-ltb (k + v) n (omega arith)
    go false e = let h = ltb-false v (n - k) e in le-ltb (k + v) n (omega arith)

-- no word but the limit is another
module _ (x : ℕ) where
  word_apart : (i y : ℕ) (r : Row) → (3 ≡ i → ⊥) → set_word i y (set_limit x r) ≡ set_limit x (set_word i y r)
  word_apart i y r k = ap (λ (l : List ℕ). row l r.marks) (set_comm r.words 3 i x y k)

  slot_apart : (n : ℕ) (v : Value) (r : Row) → set_slot n v (set_limit x r) ≡ set_limit x (set_slot n v r)
  slot_apart n v r = ap (λ (l : List ℕ). row l (set r.marks n (mark_of v))) (set_comm r.words 3 (header + n) x (word_of v) (λ e. omega arith))

  word_unread : (r : Row) (i : ℕ) → (i ≡ 3 → ⊥) → get_or r.words i 0 ≡ get_or (set_limit x r).words i 0
  word_unread r i k = sym (get_or-set_other r.words 3 i x 0 k)

  log_apart : (y : ℕ) (r : Row) → logged y (set_limit x r) ≡ set_limit x (logged y r)
  log_apart y r =
      let at = log_start r + log_count r in
      rw (← word_unread r 4 (λ e. omega arith))
      (ap (set_log_count (log_count r + 1)) (word_apart at y r (λ e. omega arith)) ∙ word_apart 4 (log_count r + 1) (set_word at y r) (λ e. omega arith))

  limit_unread : (r : Row) → Same r (set_limit x r)
  limit_unread r =
      record {
        pc = word_unread r 0 (λ e. omega arith);
        break = word_unread r 1 (λ e. omega arith);
        depth = word_unread r 2 (λ e. omega arith);
        slots = ap (λ (l : List ℕ). value_at l r.marks) (sym (drop-set-lt header r.words 3 x (omega arith)));
        marks = refl;
      }

-- k words of the tape are used before
module _ (k : ℕ) (tape : List ℕ) (x : ℕ) where
  rest_drawn : (v : ℕ) (r : Row) → drawn (log_start r) tape (k + v) r ≡ drawn (log_start r) (drop k tape) v (set_limit x r)
  unfolding drawn
  rest_drawn v r =
      rw (← word_unread x r 4 (λ e. omega arith), length-set r.words 3 x, get_or-drop k tape v 0, length-drop k tape, ltb_rest k v (length tape)) refl

  module _ (w : ℕ) where
    -- s is r with the limit x, on the rest of the tape
    pub record Resumed (u : ℕ) (r : Row) (v : ℕ) (s : Row) : Type 0 where
      pub memory : memory_words r ≡ w
      pub used : u ≡ k + v
      pub other : s ≡ set_limit x r

    resumed_same : {u v : ℕ} {r s : Row} → Resumed u r v s → Same r s
    resumed_same {r = r} h = subst (λ (q : Row). Same r q) (sym h.other) (limit_unread x r)

    resumed_header : {u v : ℕ} {r s : Row} (i y : ℕ) → i < 3 → Resumed u r v s → Resumed u (set_word i y r) v (set_word i y s)
    resumed_header {r = r} i y l h = record { memory = h.memory; used = h.used; other = ap (set_word i y) h.other ∙ word_apart x i y r (λ e. omega arith) }

    resumed_slot : {u v : ℕ} {r s : Row} (n : ℕ) (y : Value) → 0 < n → n < 32 + w → Resumed u r v s → Resumed u (set_slot n y r) v (set_slot n y s)
    resumed_slot {r = r} n y l m h =
        record { memory = rw (length-set r.marks n (mark_of y)) h.memory; used = h.used; other = ap (set_slot n y) h.other ∙ slot_apart x n y r }

    resumed_draws : {u v : ℕ} {r s : Row} → Resumed u r v s → drawn (log_start r) tape u r ≡ drawn (log_start s) (drop k tape) v s
    resumed_draws {v = v} {r = r} h = rw (h.used, h.other) (rest_drawn v r)

    resumed_log : {u v : ℕ} {r s : Row} (y : ℕ) → log_count r < log_room r → u < length tape → Resumed u r v s → Resumed (u + 1) (logged y r) (v + 1) (logged y s)
    resumed_log {r = r} y l m h =
        record { memory = h.memory; used = let e = h.used in omega arith; other = ap (logged y) h.other ∙ log_apart x y r }

    pub resumed : Drawing w tape (drop k tape) Resumed
    resumed =
        record {
          same = resumed_same;
          memory = λ h. h.memory;
          to_header = resumed_header;
          to_slot = resumed_slot;
          draws = resumed_draws;
          to_log = resumed_log;
        }
