-- What scoring looks at in a state ("Scoring" in document 01): its cells and their byte values, in list order.
-- Places are what is listed: pc is place 0, slot n is place 1 + n, so register r is place 1 + r and memory word m is place 33 + m.
use Rattle.std.specs.Prelude.{cond, List, [], ◌∷◌, ◌++◌, ℕ, zero, suc, ◌+◌, ◌-◌, ◌*◌, ltb, length}
use Rattle.values.specs.Values.{register_count}
use Rattle.values.specs.Values.{byte_of}
use Rattle.values.specs.declared.Value.{Value}
use Rattle.values.specs.declared.Value.TheVariants.{Concrete, Uninitialized}
use Rattle.rows.specs.Rows.{Row, pc_of, slot_at}

-- the place of the first memory word, behind pc and the registers
abbrev pub first_memory_place : ℕ
first_memory_place = 1 + register_count

-- the cell of the first register's lowest byte
abbrev pub first_register_cell : ℕ
first_register_cell = 8

-- the cell of the first memory word's lowest byte
abbrev pub first_memory_cell : ℕ
first_memory_cell = 264

-- the value at a place; pc is always concrete
unfoldable pub place_at : Row → ℕ → Value
place_at r zero = Concrete (pc_of r)
place_at r (suc n) = slot_at r n

-- how many places a row has
abbrev pub places : Row → ℕ
places r = suc (length r.marks)

-- the cell of a place's lowest byte: pc 0, register r 8 + r, memory word m 264 + m
unfoldable pub base_of : ℕ → ℕ
base_of zero = 0
base_of (suc n) = cond (ltb n register_count) (first_register_cell + n) (first_memory_cell + (n - register_count))

-- the cell of byte b of a place; cells of different places overlap
abbrev pub cell_of : ℕ → ℕ → ℕ
cell_of place b = base_of place + 8 * b

-- a cell together with a byte value
abbrev pub address_of : ℕ → ℕ → ℕ
address_of cell byte = 256 * cell + byte

-- the first b bytes of the word x at a place, lowest first
unfoldable pub byte_addresses : ℕ → ℕ → ℕ → List ℕ
byte_addresses place x zero = []
byte_addresses place x (suc b) = byte_addresses place x b ++ (address_of (cell_of place b) (byte_of x b) ∷ [])

-- only a concrete word gives its eight bytes
abbrev pub word_addresses : ℕ → Value → List ℕ
word_addresses place (Concrete x) = byte_addresses place x 8
word_addresses place Uninitialized = []

-- of the first n places
unfoldable pub addresses_to : ℕ → Row → List ℕ
addresses_to zero r = []
addresses_to (suc n) r = addresses_to n r ++ word_addresses n (place_at r n)

-- a state's list: pc, the registers and the memory words, in that order
abbrev pub addresses_of : Row → List ℕ
addresses_of r = addresses_to (places r) r
