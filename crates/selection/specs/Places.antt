-- A stepping stone between contracts: the rows that are to come first, by their numbers.
use Rattle.std.specs.Prelude.{List, map, ◌≡◌, ℕ, ◌<◌, ◌≤◌, length, get_or}
use Rattle.rows.specs.Rows.{Row}
use Rattle.store.specs.Store.{nth_row}

-- numbers of n rows, each once
pub record Numbers (n : ℕ) (order : List ℕ) : Type 0 where
  pub few : length order ≤ n
  pub within : (j : ℕ) → j < length order → get_or order j 0 < n
  pub apart : (a b : ℕ) → a < b → b < length order → get_or order a 0 ≡ get_or order b 0 → ⊥

-- the rows whose numbers these are
abbrev pub rows_numbered : List ℕ → List Row → List Row
rows_numbered order rows = map (nth_row rows) order

-- each of the first n places has its own number
pub record Own (n : ℕ) (places : List ℕ) : Type 0 where
  pub room : n ≤ length places
  pub own : (place : ℕ) → place < n → get_or places place 0 ≡ place

-- of n rows `place_of` says where each is, and `row_at` which is at each of n places: each is the other's inverse
pub record Inverse (n : ℕ) (place_of row_at : List ℕ) : Type 0 where
  pub place_of_all : n ≤ length place_of
  pub row_at_all : n ≤ length row_at
  pub row_at_in : (place : ℕ) → place < n → get_or row_at place 0 < n
  pub forth : (place : ℕ) → place < n → get_or place_of (get_or row_at place 0) 0 ≡ place
  pub place_of_in : (r : ℕ) → r < n → get_or place_of r 0 < n
  pub back : (r : ℕ) → r < n → get_or row_at (get_or place_of r 0) 0 ≡ r
