-- What an entry refuses before it changes anything, one test a number.
use Rattle.std.specs.Prelude.{Result, Ok, Err, Bool, ◌&&◌, ◌||◌, ℕ, ◌+◌, ◌*◌, ◌/◌, ◌%◌, eqb, leb, pos, Float}
use Rattle.std.specs.Float.{binary64}
use Rattle.std.specs.Float.Ieee.{of_int, le}
use Rattle.rows.specs.Limits.{most_rows, memory_unit, most_memory_bytes, most_log}
use Rattle.rows.specs.Rows.{row_words, row_marks}
use Rattle.checks.specs.declared.refusal.Refusal.{Refusal}
use Rattle.checks.specs.declared.refusal.Refusal.TheVariants.{MemorySize, AmountOfStates, CopyRatio, LogSize, LentLengths, TableLength, SegmentLength, SegmentEnd, InvalidRow}

abbrev pub refusal_number : Refusal → ℕ
refusal_number MemorySize = 1
refusal_number AmountOfStates = 2
refusal_number CopyRatio = 3
refusal_number LogSize = 4
refusal_number LentLengths = 5
refusal_number TableLength = 32
refusal_number SegmentLength = 6
refusal_number SegmentEnd = 7
refusal_number InvalidRow = 9

-- a refusal's number, 0 for an accepted call
abbrev pub checked_number : Result (Unit {0}) Refusal → ℕ
checked_number (Ok t) = 0
checked_number (Err f) = refusal_number f

-- 1: memory not a multiple of 1024 in 1024 to 1,048,576
abbrev pub is_memory_size : ℕ → Bool
is_memory_size bytes = eqb (bytes % memory_unit) 0 && leb memory_unit bytes && leb bytes most_memory_bytes

-- 2: states outside 1 to 4096
abbrev pub is_amount_of_states : ℕ → Bool
is_amount_of_states states = leb 1 states && leb states most_rows

-- 3: ratio not within 0 to 1
abbrev pub is_copy_ratio : Float → Bool
is_copy_ratio ratio = le (of_int binary64 (pos 0)) ratio && le ratio (of_int binary64 (pos 1))

-- 4: L above 65,536
abbrev pub is_log_size : ℕ → Bool
is_log_size l = leb l most_log

-- 5: lent lengths not exact, for so many rows of W memory words and L log words
abbrev pub are_lengths : ℕ → ℕ → ℕ → ℕ → ℕ → Bool
are_lengths rows w l words marks = eqb words (rows * row_words w l) && eqb marks (rows * row_marks w)

-- 6: a segment's length not a multiple of 8
abbrev pub is_whole : ℕ → Bool
is_whole bytes = eqb (bytes % 8) 0

-- 7: a non-empty segment ends past memory
abbrev pub is_inside : ℕ → ℕ → ℕ → Bool
is_inside w address bytes = eqb bytes 0 || leb (address / 8 + bytes / 8) w
