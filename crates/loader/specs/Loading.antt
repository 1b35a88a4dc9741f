-- A new executor ("A row" in document 01): a program in a blank row.
use Rattle.std.specs.Prelude.{◌≡◌, List, ℕ, zero, suc, ◌+◌, ◌-◌, ◌*◌, ◌/◌, ◌%◌, ◌^◌, ◌≤◌, ◌<◌, length, get_or}
use Rattle.values.specs.declared.Value.TheVariants.{Concrete}
use Rattle.rows.specs.Rows.{Row, blank, memory_words, set_pc, set_break, set_slot, set_memory}

-- a part of a program: where it is to lie, and its bytes
pub record Segment : Type 0 where
  pub address : ℕ
  pub content : List ℕ

abbrev pub segment : ℕ → List ℕ → Segment
segment address content = record { address = address; content = content }

pub record Program : Type 0 where
  pub code_segment : Segment
  pub data_segment : Segment

abbrev pub program : Segment → Segment → Program
program code constants = record { code_segment = code; data_segment = constants }

-- the program of so many bytes of code and of data, each at its address
abbrev pub image : ℕ → List ℕ → ℕ → List ℕ → Program
image code_address code data_address constants = program (segment code_address code) (segment data_address constants)

-- the word of eight bytes from place i on, little-endian
abbrev pub word_at : List ℕ → ℕ → ℕ
word_at bytes i =
    get_or bytes i 0
    + get_or bytes (i + 1) 0 * 2 ^ 8
    + get_or bytes (i + 2) 0 * 2 ^ 16
    + get_or bytes (i + 3) 0 * 2 ^ 24
    + get_or bytes (i + 4) 0 * 2 ^ 32
    + get_or bytes (i + 5) 0 * 2 ^ 40
    + get_or bytes (i + 6) 0 * 2 ^ 48
    + get_or bytes (i + 7) 0 * 2 ^ 56

-- n words of a segment, from its word k on, into the memory words from m + k on
unfoldable pub loaded_from : ℕ → ℕ → ℕ → List ℕ → Row → Row
loaded_from zero k m bytes r = r
loaded_from (suc n) k m bytes r = loaded_from n (k + 1) m bytes (set_memory (m + k) (Concrete (word_at bytes (8 * k))) r)

-- a segment from memory word address/8 on, rounded down
unfoldable pub loaded : Segment → Row → Row
loaded s r = loaded_from (length s.content / 8) 0 (s.address / 8) s.content r

-- x2 = memory bytes - 8, x0 = 0, the word at x2 = 0 (argc)
unfoldable pub started : Row → Row
started r = set_memory (memory_words r - 1) (Concrete 0) (set_slot 0 (Concrete 0) (set_slot 2 (Concrete (8 * memory_words r - 8)) r))

-- then code, then data; pc = code address, break = data address + data length
unfoldable pub programmed : Program → Row → Row
programmed p r =
    set_break (p.data_segment.address + length p.data_segment.content)
    (set_pc p.code_segment.address (loaded p.data_segment (loaded p.code_segment (started r))))

-- a new executor in a row of so many words and marks: all else 0 and uninitialised
unfoldable pub new_executor : Program → ℕ → ℕ → Row
new_executor p words marks = programmed p (blank words marks)

-- a segment that can be loaded into a memory of W words: whole words, and none past the end; numbers 6 and 7 refuse the others
pub record Fits (w : ℕ) (s : Segment) : Type 0 where
  pub whole : length s.content % 8 ≡ 0
  pub inside : (0 < length s.content) → s.address / 8 + length s.content / 8 ≤ w
