-- The numbers of a line by their columns.
use Rattle.std.specs.Prelude.{ℕ, zero, suc, ◌+◌, ◌/◌, ◌%◌, cond, List, [], ◌∷◌, ◌++◌, nat_le, slice_index, Option, Some, None}
use Rattle.values.specs.Values.{byte_of}

-- the number in a column; 0 past the end
abbrev pub number_at : List ℕ → ℕ → ℕ
number_at numbers at = slice_index numbers at

-- a number, cut down to the most that there may be
unfoldable pub cut_to : ℕ → ℕ → ℕ
cut_to most n = cond (nat_le n most) n most

-- the length in a column, of at most so much
abbrev pub length_at : List ℕ → ℕ → ℕ → ℕ
length_at numbers at most = cut_to most (number_at numbers at)

-- the length in a column, if it is of at most so much
unfoldable pub length_within : List ℕ → ℕ → ℕ → Option ℕ
length_within numbers at most = let n = number_at numbers at in cond (nat_le n most) (Some n) None

-- how many words so many bytes take
abbrev pub words_for : ℕ → ℕ
words_for bytes = (bytes + 7) / 8

-- where the words of code and data end that begin at a column
abbrev pub words_end : ℕ → ℕ → ℕ → ℕ
words_end start code_bytes data_bytes = start + words_for code_bytes + words_for data_bytes

-- byte i of the words in the columns from this one on
abbrev pub byte_at : List ℕ → ℕ → ℕ → ℕ
byte_at numbers at i = byte_of (number_at numbers (at + i / 8)) (i % 8)

-- the first n of these bytes
unfoldable pub bytes_at : ℕ → List ℕ → ℕ → List ℕ
bytes_at zero numbers at = []
bytes_at (suc n) numbers at = bytes_at n numbers at ++ (byte_at numbers at n ∷ [])
