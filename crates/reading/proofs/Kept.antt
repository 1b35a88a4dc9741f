-- What reading leaves alone: the lengths of a row's words and marks, and its pc, break, depth and limit.
use Rattle.std.proofs.Common.{List, ◌≡◌, refl, ◌∙◌, ℕ, zero, suc, ◌+◌, ◌*◌, ◌/◌, ◌%◌, ◌^◌, ◌<◌, arith, eqb, length, get_or, length-set, get_or-set_other}
use Rattle.std.specs.Prelude.{Result, Ok, Err}
use Rattle.answers.specs.declared.error.ExecutorError.{ExecutorError}
use Rattle.laws.proofs.Choices.{chosen}
use Rattle.answers.specs.declared.outcome.Progress.{Progress}
use Rattle.answers.specs.declared.outcome.Progress.TheVariants.{Running, Ended}
use Rattle.values.specs.declared.Value.{Value}
use Rattle.values.specs.declared.Value.TheVariants.{Concrete, Uninitialized}
use Rattle.rows.specs.Rows.{Row, header, log_start, log_count, set_word, set_log_count, memory_at}
use Rattle.reading.specs.Reading.{Reached, running, onwards, ◌then_on◌, drawn, recorded, full_word, full_words, tail_of, tail, rest, bytes}

-- f is what is kept: by two things in turn, if by each
module _ {A : Type 0} (f : Row → A) (then : ℕ → Row → Reached) (each : (used : ℕ) (s : Row) → f (then used s).row ≡ f s) where
  onwards_kept : (p : Progress) (used : ℕ) (s : Row) → f (onwards then p used s).row ≡ f s
  unfolding onwards
  onwards_kept Running used s = each used s
  onwards_kept (Ended o) used s = refl

  pub then_kept : (x : Reached) (r : Row) → f x.row ≡ f r → f (x then_on then).row ≡ f r
  then_kept x r first = onwards_kept x.moved.progress x.moved.used x.row ∙ first

-- what logging and storing a word keeps, reading keeps
module _ {A : Type 0} (f : Row → A) (each : (m logged stored : ℕ) (r : Row) → f (recorded m logged stored r) ≡ f r) where
  full_word_kept : (d : Result ℕ ExecutorError) (m used : ℕ) (r : Row) → f (full_word d m used r).row ≡ f r
  unfolding full_word
  full_word_kept (Ok x) m used r = each m _ _ r
  full_word_kept (Err e) m used r = refl

  full_words_kept : (n : ℕ) (tape : List ℕ) (m used : ℕ) (r : Row) → f (full_words n tape m used r).row ≡ f r
  unfolding full_words
  full_words_kept zero tape m used r = refl
  full_words_kept (suc n) tape m used r =
      then_kept f (full_words n tape (m + 1)) (λ u s. full_words_kept n tape (m + 1) u s) (full_word (drawn (log_start r) tape used r) m used r) r
      (full_word_kept (drawn (log_start r) tape used r) m used r)

  tail_of_kept : (d : Result ℕ ExecutorError) (c unit m used : ℕ) (r : Row) → f (tail_of d c unit m used r).row ≡ f r
  unfolding tail_of
  tail_of_kept (Ok x) c unit m used r = each m _ _ r
  tail_of_kept (Err e) c unit m used r = refl

  tail_kept : (v : Value) (tape : List ℕ) (unit m used : ℕ) (r : Row) → f (tail v tape unit m used r).row ≡ f r
  unfolding tail
  tail_kept (Concrete c) tape unit m used r = tail_of_kept (drawn (log_start r) tape used r) c unit m used r
  tail_kept Uninitialized tape unit m used r = refl

  rest_kept : (size : ℕ) (tape : List ℕ) (m used : ℕ) (r : Row) → f (rest size tape m used r).row ≡ f r
  unfolding rest
  rest_kept size tape m used r =
      chosen (λ (x : Reached). f x.row ≡ f r) (eqb (size % 8) 0) (running used r) (tail (memory_at r (m + size / 8)) tape (2 ^ (8 * (size % 8))) (m + size / 8) used r)
      (λ t. refl) (λ t. tail_kept (memory_at r (m + size / 8)) tape (2 ^ (8 * (size % 8))) (m + size / 8) used r)

  pub bytes_kept : (size : ℕ) (tape : List ℕ) (m used : ℕ) (r : Row) → f (bytes size tape m used r).row ≡ f r
  unfolding bytes
  bytes_kept size tape m used r =
      then_kept f (rest size tape m) (λ u s. rest_kept size tape m u s) (full_words (size / 8) tape m used r) r
      (full_words_kept (size / 8) tape m used r)

recorded_words : (m logged stored : ℕ) (r : Row) → length (recorded m logged stored r).words ≡ length r.words
unfolding recorded
recorded_words m logged stored r = simp length-set

recorded_marks : (m logged stored : ℕ) (r : Row) → length (recorded m logged stored r).marks ≡ length r.marks
unfolding recorded
recorded_marks m logged stored r = simp length-set

-- of the header only the log count, word 4, is written
recorded_header : (i : ℕ) → (i ≡ 4 → ⊥) → i < header → (m logged stored : ℕ) (r : Row) → get_or (recorded m logged stored r).words i 0 ≡ get_or r.words i 0
unfolding recorded
recorded_header i other h m logged stored r =
    let noted = set_word (log_start r + log_count r) logged r in
    get_or-set_other (set_log_count (log_count r + 1) noted).words (header + (32 + m)) i stored 0 (λ e. omega arith)
    ∙ get_or-set_other noted.words 4 i (log_count r + 1) 0 (λ e. other (omega arith))
    ∙ get_or-set_other r.words (log_start r + log_count r) i logged 0 (λ e. omega arith)

pub bytes_words : (size : ℕ) (tape : List ℕ) (m used : ℕ) (r : Row) → length (bytes size tape m used r).row.words ≡ length r.words
bytes_words = bytes_kept (λ (r : Row). length r.words) recorded_words

pub bytes_marks : (size : ℕ) (tape : List ℕ) (m used : ℕ) (r : Row) → length (bytes size tape m used r).row.marks ≡ length r.marks
bytes_marks = bytes_kept (λ (r : Row). length r.marks) recorded_marks

pub bytes_header : (i : ℕ) → (i ≡ 4 → ⊥) → i < header → (size : ℕ) (tape : List ℕ) (m used : ℕ) (r : Row) → get_or (bytes size tape m used r).row.words i 0 ≡ get_or r.words i 0
bytes_header i other h = bytes_kept (λ (r : Row). get_or r.words i 0) (recorded_header i other h)
