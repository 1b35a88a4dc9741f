-- Looking for marks.
use Rattle.std.specs.Prelude.{List, ◌≡◌, ℕ, ◌≤◌, ◌<◌, length, get_or}

-- the marks from place `from` to place `to` are 0
pub record Unmarked (marks : List ℕ) (from to : ℕ) : Type 0 where
  pub forward : from ≤ to
  pub within : to ≤ length marks
  pub zeros : (i : ℕ) → from ≤ i → i < to → get_or marks i 0 ≡ 0

-- r is the first marked place from `from` on, or the number of marks
pub record NextMarked (marks : List ℕ) (from r : ℕ) : Type 0 where
  pub unmarked : Unmarked marks from r
  pub marked : r < length marks → get_or marks r 0 ≡ 0 → ⊥
