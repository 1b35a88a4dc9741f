-- A counter: how often a cell with a byte value occurs over all given states, repeats inside one state included.
use Rattle.std.specs.Prelude.{Bool, true, false, cond, List, [], ◌∷◌, map, ℕ, ◌+◌, ◌*◌, eqb}
use Rattle.rows.specs.Rows.{Row}
use Rattle.rows.specs.Limits.{most_rows}
use Rattle.counting.specs.Cells.{addresses_of}

-- how often a number is in a list
unfoldable pub occurrences : ℕ → List ℕ → ℕ
occurrences a [] = 0
occurrences a (x ∷ xs) = cond (eqb x a) 1 0 + occurrences a xs

-- the counter of an address over some rows
unfoldable pub counter_in : List Row → ℕ → ℕ
counter_in [] a = 0
counter_in (r ∷ rs) a = occurrences a (addresses_of r) + counter_in rs a

-- the most that a counter can be: a row has an address eight times at most
abbrev pub highest_counter : ℕ
highest_counter = 8 * most_rows

-- the counters of a state's own list
unfoldable pub counters_of : List Row → Row → List ℕ
counters_of rows r = map (counter_in rows) (addresses_of r)

-- the rows that take part: those whose flag is set
unfoldable pub taking : List Bool → List Row → List Row
taking [] rows = []
taking (f ∷ fs) [] = []
taking (true ∷ fs) (r ∷ rows) = r ∷ taking fs rows
taking (false ∷ fs) (r ∷ rows) = taking fs rows
