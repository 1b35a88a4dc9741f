-- The row of one executor ("A row" in document 01): its words and its marks. No other definition knows a place in it.
-- Words: pc, break, depth, limit, log count, born, 32 registers, W memory words, L log words. Marks: one for each register and memory word.
-- Registers and memory words are one run of slots: register n is slot n, memory word m is slot 32 + m; a slot has a word and a mark.
use Rattle.std.specs.Prelude.{List, ℕ, ◌+◌, ◌-◌, ◌≤◌, length, get_or, set, drop, replicate}
use Rattle.values.specs.Values.{register_count, value_at}
use Rattle.values.specs.declared.Value.{Value}
use Rattle.values.specs.declared.Value.TheVariants.{Concrete, Uninitialized}

pub record Row : Type 0 where
  pub words : List ℕ
  pub marks : List ℕ

abbrev pub row : List ℕ → List ℕ → Row
row w m = record { words = w; marks = m }

-- a row of zeros
abbrev pub blank : ℕ → ℕ → Row
blank words marks = row (replicate words 0) (replicate marks 0)

-- the number of words before the slots
abbrev pub header : ℕ
header = 6

-- how many words and marks a row of W memory words and L log words has
abbrev pub row_words : ℕ → ℕ → ℕ
row_words w l = header + register_count + w + l

abbrev pub row_marks : ℕ → ℕ
row_marks w = register_count + w

-- what the lengths of a row's lists allow: all registers, and a word for each mark
pub record Shape (words marks : List ℕ) : Type 0 where
  pub registers : register_count ≤ length marks
  pub slots : length marks + header ≤ length words

-- W, of a row's marks
abbrev pub memory_in : List ℕ → ℕ
memory_in marks = length marks - register_count

-- W, the place of the first log word, and L
abbrev pub memory_words : Row → ℕ
memory_words r = memory_in r.marks

abbrev pub log_start : Row → ℕ
log_start r = length r.marks + header

-- how many words there are from a place on; L, where the log starts there
abbrev pub room_from : ℕ → Row → ℕ
room_from at r = length r.words - at

abbrev pub log_room : Row → ℕ
log_room r = room_from (log_start r) r

abbrev pub pc_of : Row → ℕ
pc_of r = get_or r.words 0 0

abbrev pub break_of : Row → ℕ
break_of r = get_or r.words 1 0

abbrev pub depth_of : Row → ℕ
depth_of r = get_or r.words 2 0

abbrev pub limit_of : Row → ℕ
limit_of r = get_or r.words 3 0

abbrev pub log_count : Row → ℕ
log_count r = get_or r.words 4 0

-- in a search: the round, counted from 0, in which its first ancestor was created anew
abbrev pub born_of : Row → ℕ
born_of r = get_or r.words 5 0

abbrev pub set_word : ℕ → ℕ → Row → Row
set_word i x r = row (set r.words i x) r.marks

abbrev pub set_pc : ℕ → Row → Row
set_pc x r = set_word 0 x r

abbrev pub set_break : ℕ → Row → Row
set_break x r = set_word 1 x r

abbrev pub set_depth : ℕ → Row → Row
set_depth x r = set_word 2 x r

abbrev pub set_limit : ℕ → Row → Row
set_limit x r = set_word 3 x r

abbrev pub set_log_count : ℕ → Row → Row
set_log_count x r = set_word 4 x r

abbrev pub set_born : ℕ → Row → Row
set_born x r = set_word 5 x r

-- the value in slot n; of register n; of memory word m
abbrev pub slot_at : Row → ℕ → Value
slot_at r n = value_at (drop header r.words) r.marks n

abbrev pub memory_at : Row → ℕ → Value
memory_at r m = slot_at r (register_count + m)

-- how a value is stored: an uninitialised one as word 0 with mark 0
abbrev pub word_of : Value → ℕ
word_of (Concrete x) = x
word_of Uninitialized = 0

abbrev pub mark_of : Value → ℕ
mark_of (Concrete x) = 1
mark_of Uninitialized = 0

abbrev pub set_slot : ℕ → Value → Row → Row
set_slot n v r = row (set r.words (header + n) (word_of v)) (set r.marks n (mark_of v))

abbrev pub set_memory : ℕ → Value → Row → Row
set_memory m v r = set_slot (register_count + m) v r
