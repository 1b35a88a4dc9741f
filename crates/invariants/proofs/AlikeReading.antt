-- Rows that draw the same, word by word, stay alike through reading.
use Rattle.std.proofs.Common.{List, ◌≡◌, refl, ℕ, zero, suc, ◌+◌, ◌*◌, ◌/◌, ◌%◌, ◌^◌, ◌<◌, ◌≤◌, arith, false, eqb, length}
use Rattle.std.proofs.lemmas.Bool.{eqb-false}
use Rattle.laws.proofs.Choices.{both_chosen}
use Rattle.answers.specs.declared.outcome.Progress.{Progress}
use Rattle.answers.specs.declared.outcome.Progress.TheVariants.{Running, Ended}
use Rattle.values.specs.declared.Value.{Value}
use Rattle.values.specs.declared.Value.TheVariants.{Concrete, Uninitialized}
use Rattle.rows.specs.Rows.{Row, memory_at, memory_words, log_start, log_count, log_room, set_word, set_slot}
use Rattle.std.specs.Prelude.{Result, Ok, Err}
use Rattle.answers.specs.declared.error.ExecutorError.{ExecutorError}
use Rattle.calls.specs.declared.step.Step.{Step}
use Rattle.reading.specs.Reading.{Reached, onwards, ◌then_on◌, drawn, recorded, full_word, full_words, tail_of, tail, rest, bytes}
use Rattle.reading.proofs.Draws.{drawn_room}
use Rattle.invariants.proofs.Alike.{Same, Relation, Agreed, Alike, logged, same_slot}

-- R relates rows that draw the same
pub record Drawing (w : ℕ) (tape tape' : List ℕ) (R : Relation) : Type 0 where
  pub same : {u v : ℕ} {r s : Row} → R u r v s → Same r s
  pub memory : {u v : ℕ} {r s : Row} → R u r v s → memory_words r ≡ w
  pub to_header : {u v : ℕ} {r s : Row} (i x : ℕ) → i < 3 → R u r v s → R u (set_word i x r) v (set_word i x s)
  pub to_slot : {u v : ℕ} {r s : Row} (n : ℕ) (x : Value) → 0 < n → n < 32 + w → R u r v s → R u (set_slot n x r) v (set_slot n x s)
  pub draws : {u v : ℕ} {r s : Row} → R u r v s → drawn (log_start r) tape u r ≡ drawn (log_start s) tape' v s
  pub to_log : {u v : ℕ} {r s : Row} (x : ℕ) → log_count r < log_room r → u < length tape → R u r v s → R (u + 1) (logged x r) (v + 1) (logged x s)

-- every end is compared
abbrev pub Always : Step → Row → Type 0
Always t r = Unit {0}

module _ (w : ℕ) (tape tape' : List ℕ) (R : Relation) (alike : Drawing w tape tape' R) where
  -- two things in turn, if each does
  module _ (then then' : ℕ → Row → Reached) (each : (u v : ℕ) (r s : Row) → R u r v s → Agreed R (then u r) (then' v s)) where
    onwards_alike : (p : Progress) (u v : ℕ) (r s : Row) → R u r v s → Agreed R (onwards then p u r) (onwards then' p v s)
    unfolding onwards
    onwards_alike Running u v r s h = each u v r s h
    onwards_alike (Ended o) u v r s h = record { rows = h; progress = refl }

    then_alike : {x y : Reached} → Agreed R x y → Agreed R (x then_on then) (y then_on then')
    then_alike {x} {y} b = rw (← b.progress) (onwards_alike x.moved.progress x.moved.used y.moved.used x.row y.row b.rows)

  -- a draw says that the log has room, and the tape a word
  recorded_alike : (m x stored : ℕ) {u v : ℕ} {r s : Row} → m < w → (log_count r < log_room r) × (u < length tape) → R u r v s
      → R (u + 1) (recorded m x stored r) (v + 1) (recorded m x stored s)
  unfolding recorded
  recorded_alike m x stored k room h = alike.to_slot (32 + m) (Concrete stored) (omega arith) (omega arith) (alike.to_log x room.0 room.1 h)

  full_word_alike : (d : Result ℕ ExecutorError) (m u v : ℕ) (r s : Row) → m < w → drawn (log_start r) tape u r ≡ d → R u r v s
      → Agreed R (full_word d m u r) (full_word d m v s)
  unfolding full_word
  full_word_alike (Ok x) m u v r s k e h = record { rows = recorded_alike m x x k (drawn_room (log_start r) tape u r x refl e) h; progress = refl }
  full_word_alike (Err o) m u v r s k e h = record { rows = h; progress = refl }

  full_words_alike : (n m u v : ℕ) (r s : Row) → m + n ≤ w → R u r v s → Agreed R (full_words n tape m u r) (full_words n tape' m v s)
  unfolding full_words
  full_words_alike zero m u v r s k h = record { rows = h; progress = refl }
  full_words_alike (suc n) m u v r s k h =
      rw (← alike.draws h)
      (then_alike (full_words n tape (m + 1)) (full_words n tape' (m + 1)) (λ a b p q. full_words_alike n (m + 1) a b p q (omega arith))
      (full_word_alike (drawn (log_start r) tape u r) m u v r s (omega arith) refl h))

  tail_of_alike : (d : Result ℕ ExecutorError) (c unit m u v : ℕ) (r s : Row) → m < w → drawn (log_start r) tape u r ≡ d → R u r v s
      → Agreed R (tail_of d c unit m u r) (tail_of d c unit m v s)
  unfolding tail_of
  tail_of_alike (Ok x) c unit m u v r s k e h =
      record { rows = recorded_alike m _ _ k (drawn_room (log_start r) tape u r x refl e) h; progress = refl }
  tail_of_alike (Err o) c unit m u v r s k e h = record { rows = h; progress = refl }

  tail_alike : (x : Value) (unit m u v : ℕ) (r s : Row) → m < w → R u r v s → Agreed R (tail x tape unit m u r) (tail x tape' unit m v s)
  unfolding tail
  tail_alike (Concrete c) unit m u v r s k h =
      rw (← alike.draws h) (tail_of_alike (drawn (log_start r) tape u r) c unit m u v r s k refl h)
  tail_alike Uninitialized unit m u v r s k h = record { rows = h; progress = refl }

  -- the word of a tail is there only where some bytes are left
  rest_alike : (size m u v : ℕ) (r s : Row) → m + (size + 7) / 8 ≤ w → R u r v s → Agreed R (rest size tape m u r) (rest size tape' m v s)
  unfolding rest
  rest_alike size m u v r s k h =
      rw (← same_slot (alike.same h) (32 + (m + size / 8)))
      (both_chosen (Agreed R) (eqb (size % 8) 0) (λ e. record { rows = h; progress = refl })
      (λ n. tail_alike (memory_at r (m + size / 8)) (2 ^ (8 * (size % 8))) (m + size / 8) u v r s (last_word n) h))
    where
      last_word : eqb (size % 8) 0 ≡ false → m + size / 8 < w
      last_word n = let some : size % 8 ≡ 0 → ⊥ = eqb-false (size % 8) 0 n in omega arith

  bytes_alike : (size m u v : ℕ) (r s : Row) → m + (size + 7) / 8 ≤ w → R u r v s → Agreed R (bytes size tape m u r) (bytes size tape' m v s)
  unfolding bytes
  bytes_alike size m u v r s k h =
      then_alike (rest size tape m) (rest size tape' m) (λ a b p q. rest_alike size m a b p q k) (full_words_alike (size / 8) m u v r s (omega arith) h)

  pub drawing_alike : Alike w tape tape' R Always
  drawing_alike =
      record {
        same = alike.same;
        memory = alike.memory;
        to_header = alike.to_header;
        to_slot = alike.to_slot;
        reads = λ size m u v r s k h i. bytes_alike size m u v r s k h;
        if_header = λ t r i x k h. tt;
        if_slot = λ t r n x k h. tt;
        if_write = λ b n r h. tt;
      }
