-- How the read call takes input: one tape word for each memory word, logged as it is used ("Executing" in document 01).
use Rattle.std.specs.Prelude.{cond, List, Result, Ok, Err, ℕ, zero, suc, ◌+◌, ◌*◌, ◌/◌, ◌%◌, ◌^◌, eqb, ltb, length, get_or}
use Rattle.answers.specs.declared.error.ExecutorError.{ExecutorError}
use Rattle.answers.specs.declared.error.ExecutorError.TheVariants.{TapeEmpty, LogFull}
use Rattle.answers.specs.declared.outcome.Outcome.{Outcome}
use Rattle.answers.specs.declared.outcome.Outcome.TheVariants.{Failed}
use Rattle.answers.specs.declared.outcome.Progress.{Progress}
use Rattle.answers.specs.declared.outcome.Progress.TheVariants.{Running, Ended}
use Rattle.values.specs.declared.Value.{Value}
use Rattle.values.specs.declared.Value.TheVariants.{Concrete, Uninitialized}
use Rattle.rows.specs.Rows.{Row, log_start, room_from, log_count, set_word, set_log_count, memory_at, set_memory}

-- whether an executor goes on, and the tape words used so far
pub record Moved : Type 0 where
  pub progress : Progress
  pub used : ℕ

-- a row, with these
pub record Reached : Type 0 where
  pub row : Row
  pub moved : Moved

-- what reading answers: it went through, or an error ended the executor
abbrev pub progress_of : Result (Unit {0}) ExecutorError → Progress
progress_of (Ok _) = Running
progress_of (Err e) = Ended (Failed e)

abbrev pub reached : Row → ℕ → Result (Unit {0}) ExecutorError → Reached
reached r used result = record { row = r; moved = record { progress = progress_of result; used = used } }

abbrev pub running : ℕ → Row → Reached
running used r = record { row = r; moved = record { progress = Running; used = used } }

abbrev pub ended : Outcome → ℕ → Row → Reached
ended o used r = record { row = r; moved = record { progress = Ended o; used = used } }

-- first one thing, then, if the executor goes on, another
unfoldable pub onwards : (ℕ → Row → Reached) → Progress → ℕ → Row → Reached
onwards then Running used r = then used r
onwards then (Ended o) used r = ended o used r

infixl 20 ◌then_on◌
abbrev pub ◌then_on◌ : Reached → (ℕ → Row → Reached) → Reached
x then_on then = onwards then x.moved.progress x.moved.used x.row

-- the next word of the tape: 25 where the log, which starts at some word, is full, then 24 where the tape is empty
unfoldable pub drawn : ℕ → List ℕ → ℕ → Row → Result ℕ ExecutorError
drawn log tape used r =
    cond (ltb (log_count r) (room_from log r)) (cond (ltb used (length tape)) (Ok (get_or tape used 0)) (Err TapeEmpty)) (Err LogFull)

-- a word goes to the end of the log
abbrev pub logged_at : ℕ → ℕ → Row → Row
logged_at log x r = set_log_count (log_count r + 1) (set_word (log + log_count r) x r)

-- and one to memory word m
unfoldable pub recorded : ℕ → ℕ → ℕ → Row → Row
recorded m logged stored r = set_memory m (Concrete stored) (logged_at (log_start r) logged r)

-- a full word: memory word m takes a draw
unfoldable pub full_word : Result ℕ ExecutorError → ℕ → ℕ → Row → Reached
full_word (Ok x) m used r = running (used + 1) (recorded m x x r)
full_word (Err e) m used r = ended (Failed e) used r

-- n full words from memory word m on
unfoldable pub full_words : ℕ → List ℕ → ℕ → ℕ → Row → Reached
full_words zero tape m used r = running used r
full_words (suc n) tape m used r = full_word (drawn (log_start r) tape used r) m used r then_on full_words n tape (m + 1)

-- a tail of k bytes, unit being 2^8k: a draw replaces the low k bytes of the word that memory word m holds, and only those are logged
unfoldable pub tail_of : Result ℕ ExecutorError → ℕ → ℕ → ℕ → ℕ → Row → Reached
tail_of (Ok x) held unit m used r = running (used + 1) (recorded m (x % unit) (held / unit * unit + x % unit) r)
tail_of (Err e) held unit m used r = ended (Failed e) used r

-- on an uninitialised word reading stops without a draw
unfoldable pub tail : Value → List ℕ → ℕ → ℕ → ℕ → Row → Reached
tail (Concrete held) tape unit m used r = tail_of (drawn (log_start r) tape used r) held unit m used r
tail Uninitialized tape unit m used r = running used r

-- what is left of size bytes once the full words from m on are read
unfoldable pub rest : ℕ → List ℕ → ℕ → ℕ → Row → Reached
rest size tape m used r =
    cond (eqb (size % 8) 0) (running used r) (tail (memory_at r (m + size / 8)) tape (2 ^ (8 * (size % 8))) (m + size / 8) used r)

-- size bytes into the memory words from m on: full words, then a tail
unfoldable pub bytes : ℕ → List ℕ → ℕ → ℕ → Row → Reached
bytes size tape m used r = full_words (size / 8) tape m used r then_on rest size tape m
