-- Counting in a table (change 4 of document 02): a counter for each cell and byte value, at address 256 × cell + byte value.
use Rattle.std.specs.Prelude.{List, [], ◌∷◌, ◌++◌, map, ◌≡◌, ℕ, ◌+◌, ◌*◌, ◌<◌, Float, length, get_or, replicate}
use Rattle.rows.specs.Rows.{Row}
use Rattle.means.specs.declared.MeanType.{MeanType}
use Rattle.means.specs.Means.{sum, mean}
use Rattle.counting.specs.Cells.{addresses_of}
use Rattle.counting.specs.Counters.{counter_in}

-- how many counters there are for rows of W memory words: their cells are those below W + 320
abbrev pub table_length : ℕ → ℕ
table_length w = 256 * (w + 320)

-- before and after counting
abbrev pub zeros : ℕ → List ℕ
zeros n = replicate n 0

-- the addresses of some states, one list after the other
unfoldable pub addresses_in : List Row → List ℕ
addresses_in [] = []
addresses_in (r ∷ rows) = addresses_of r ++ addresses_in rows

-- the number of increments: the total length of the states' lists
abbrev pub increments : List Row → ℕ
increments rows = length (addresses_in rows)

-- the table holds the counters of the rows, and nothing else
pub record Counted (rows : List Row) (table : List ℕ) : Type 0 where
  pub counters : (a : ℕ) → a < length table → get_or table a 0 ≡ counter_in rows a
  pub total : sum table ≡ increments rows

-- a state's counters as a table has them
abbrev pub counters_from : List ℕ → Row → List ℕ
counters_from table r = map (λ a. get_or table a 0) (addresses_of r)

-- its score by a table
abbrev pub score_from : MeanType → List ℕ → Row → Float
score_from m table r = mean m (counters_from table r)
