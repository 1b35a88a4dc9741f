-- What an entry knows from a test that passed.
use Rattle.std.proofs.Common.{◌≡◌, true, ◌&&◌, ℕ, ◌+◌, ◌*◌, ◌/◌, ◌%◌, ◌^◌, ◌<◌, ◌≤◌, arith, eqb-true, leb-true, ne_eqb, eqb, leb}
use Rattle.laws.proofs.Choices.{parts}
use Rattle.rows.specs.Limits.{most_rows, most_memory, most_log, memory_unit, most_memory_bytes}
use Rattle.rows.specs.Rows.{Row, row_words, row_marks, limit_of}
use Rattle.rows.specs.Valid.{sound_row, valid_row}
use Rattle.checks.specs.Refusals.{is_memory_size, is_amount_of_states, is_log_size, are_lengths, is_whole, is_inside}

pub memory_size_passed : (bytes : ℕ) → is_memory_size bytes ≡ true → (bytes % memory_unit ≡ 0) × (memory_unit ≤ bytes) × (bytes ≤ most_memory_bytes)
memory_size_passed bytes h =
    let whole = eqb (bytes % memory_unit) 0 in
    let enough = leb memory_unit bytes in
    let outer = parts (whole && enough) (leb bytes most_memory_bytes) h in
    let inner = parts whole enough outer.0 in
    (eqb-true _ _ inner.0, leb-true _ _ inner.1, leb-true _ _ outer.1)

pub amount_passed : (states : ℕ) → is_amount_of_states states ≡ true → (1 ≤ states) × (states ≤ most_rows)
amount_passed states h =
    let both = parts (leb 1 states) (leb states most_rows) h in
    (leb-true _ _ both.0, leb-true _ _ both.1)

pub log_size_passed : (l : ℕ) → is_log_size l ≡ true → l ≤ most_log
log_size_passed l h = leb-true _ _ h

pub lengths : (rows w l words marks : ℕ) → are_lengths rows w l words marks ≡ true → (words ≡ rows * row_words w l) × (marks ≡ rows * row_marks w)
lengths rows w l words marks h =
    let both = parts (eqb words (rows * row_words w l)) (eqb marks (rows * row_marks w)) h in
    (eqb-true _ _ both.0, eqb-true _ _ both.1)

-- what the tests of numbers 1, 2 and 5 say of a store of so many rows, and of its two lengths
pub store_lengths : (memory rows l words marks : ℕ) → is_memory_size memory ≡ true → is_amount_of_states rows ≡ true
    → are_lengths rows (memory / 8) l words marks ≡ true
    → (rows ≤ most_rows) × (0 < memory / 8) × (memory / 8 ≤ most_memory) × (words ≡ rows * row_words (memory / 8) l) × (marks ≡ rows * row_marks (memory / 8))
store_lengths memory rows l words marks m r e =
    let b = memory_size_passed memory m in
    let both = lengths rows (memory / 8) l words marks e in
    ((amount_passed rows r).1, omega (arith, b.1), omega (arith, b.2), both.0, both.1)

pub whole : (bytes : ℕ) → is_whole bytes ≡ true → bytes % 8 ≡ 0
whole bytes h = eqb-true _ _ h

pub inside : (w address bytes : ℕ) → is_inside w address bytes ≡ true → 0 < bytes → address / 8 + bytes / 8 ≤ w
inside w address bytes h k = leb-true _ _ (rw (ne_eqb bytes 0 (λ e. omega arith)) at h)

pub valid_limit : (r : Row) → valid_row r ≡ true → limit_of r ≤ 2 ^ 63
unfolding valid_row
valid_limit r h = leb-true _ _ (parts (sound_row r) (leb (limit_of r) (2 ^ 63)) h).1
