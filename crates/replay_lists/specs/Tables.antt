-- What a call leaves in a table that was lent to it.
use Rattle.std.specs.Prelude.{Bool, false, ◌&&◌, Option, Some, None, List, ℕ, eqb, length, take, drop}
use Rattle.std.specs.List.{list_all}
use Rattle.replay_lists.specs.Columns.{number_at, length_within}

-- what stands in each counter before a call
abbrev pub junk_counter : ℕ
junk_counter = 7

abbrev pub all_are : ℕ → List ℕ → Bool
all_are value counters = list_all (λ counter. eqb counter value) counters

-- what is left where so many counters were lent, if there are so many; the others are as they were
abbrev pub left_in : Option ℕ → ℕ → List ℕ → Bool
left_in (Some n) left table = all_are left (take n table) && all_are junk_counter (drop n table)
left_in None left table = false

-- column `lent` has how many were lent, column `left` what each of them is
abbrev pub is_left : List ℕ → ℕ → ℕ → List ℕ → Bool
is_left numbers lent left table = left_in (length_within numbers lent (length table)) (number_at numbers left) table
