-- The bytes of a write call: from the buffer's exact byte on, the lowest byte of a memory word first (document 02, change 1).
use Rattle.std.specs.Prelude.{List, [], ◌∷◌, ℕ, zero, suc, ◌+◌, ◌*◌, ◌/◌, ◌%◌, ◌^◌}
use Rattle.rows.specs.Rows.{Row, memory_at, word_of}

-- the byte at a byte address of memory
abbrev pub byte_at : Row → ℕ → ℕ
byte_at r address = word_of (memory_at r (address / 8)) / 2 ^ (8 * (address % 8)) % 2 ^ 8

-- size bytes from an address on
unfoldable pub bytes_from : ℕ → ℕ → Row → List ℕ
bytes_from zero address r = []
bytes_from (suc size) address r = byte_at r address ∷ bytes_from size (address + 1) r
