-- A stepping stone between contracts: how a counter is found. Byte b of a word lies in a cell only if the word's lowest byte lies 8 * b cells
-- before it, so that at most eight words of a row are looked at.
use Rattle.std.specs.Prelude.{Bool, false, cond, Option, Some, None, ℕ, ◌+◌, ◌-◌, ◌*◌, eqb, ltb, length}
use Rattle.values.specs.Values.{byte_of}
use Rattle.values.specs.declared.Value.{Value}
use Rattle.values.specs.declared.Value.TheVariants.{Concrete, Uninitialized}
use Rattle.rows.specs.Rows.{Row}
use Rattle.counting.specs.Cells.{first_memory_place, first_register_cell, first_memory_cell, place_at}

-- the place whose lowest byte is in a cell
unfoldable pub place_of : ℕ → Option ℕ
place_of base =
    cond (eqb base 0) (Some 0)
    (cond (ltb base first_register_cell) None
    (cond (ltb (base - first_register_cell) 32) (Some (1 + (base - first_register_cell)))
    (cond (ltb base first_memory_cell) None
    (Some (first_memory_place + (base - first_memory_cell))))))

-- whether byte b of a value is the byte
unfoldable pub matches : ℕ → ℕ → Value → Bool
matches byte b (Concrete x) = eqb (byte_of x b) byte
matches byte b Uninitialized = false

-- the same of the value that the row has at the place
unfoldable pub matches_at : Row → ℕ → ℕ → Option ℕ → Bool
matches_at r byte b (Some place) = cond (ltb (length r.marks) place) false (matches byte b (place_at r place))
matches_at r byte b None = false

-- whether the row has the byte in the cell as byte b of a word
unfoldable pub probe : Row → ℕ → ℕ → ℕ → Bool
probe r cell byte b = cond (ltb cell (8 * b)) false (matches_at r byte b (place_of (cell - 8 * b)))
