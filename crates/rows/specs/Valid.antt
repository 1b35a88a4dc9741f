-- The rows that an executor can have; number 9 refuses the others.
use Rattle.std.specs.Prelude.{Bool, true, false, cond, ◌&&◌, List, [], ◌∷◌, ℕ, ◌+◌, ◌^◌, eqb, leb, get_or, drop}
use Rattle.rows.specs.Rows.{Row, header, limit_of, log_count, log_start, log_room}

-- a mark is 0 or 1, and an unmarked word is 0
abbrev pub slot_valid : ℕ → ℕ → Bool
slot_valid word mark = cond (eqb mark 0) (eqb word 0) (eqb mark 1)

-- of slots' words and marks, one after the other
unfoldable pub slots_valid : List ℕ → List ℕ → Bool
slots_valid words [] = true
slots_valid [] (m ∷ ms) = false
slots_valid (w ∷ ws) (m ∷ ms) = slot_valid w m && slots_valid ws ms

unfoldable pub all_zero : List ℕ → Bool
all_zero [] = true
all_zero (x ∷ xs) = eqb x 0 && all_zero xs

-- register 0 is a marked 0
abbrev pub zero_register : Row → Bool
zero_register r = eqb (get_or r.marks 0 0) 1 && eqb (get_or r.words header 0) 0

-- what every executor keeps: marks and unmarked words, log count, log words past the count, register 0
unfoldable pub sound_row : Row → Bool
sound_row r =
    slots_valid (drop header r.words) r.marks
    && leb (log_count r) (log_room r)
    && all_zero (drop (log_start r + log_count r) r.words)
    && zero_register r

-- and a limit from which a run of any 32-bit number of instructions can start
unfoldable pub valid_row : Row → Bool
valid_row r = sound_row r && leb (limit_of r) (2 ^ 63)
