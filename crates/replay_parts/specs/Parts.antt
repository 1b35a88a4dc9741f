-- A run in parts: how many instructions each of them has.
use Rattle.std.specs.Prelude.{ℕ, ◌-◌, Bool, cond, ◌&&◌, eqb, min, nat_le}
use Rattle.replay_parts.specs.declared.Parts.{Parts}

-- the last of the numbers, from 1 on, by which a call over one row is refused
abbrev pub last_refusal : ℕ
last_refusal = 9

-- whether a call that comes to this number is refused
abbrev pub is_refusal : ℕ → Bool
is_refusal number = nat_le 1 number && nat_le number last_refusal

-- how many parts of a size there are at most
abbrev pub most_of_a_size : ℕ
most_of_a_size = 1000

-- of a run of so many instructions, in parts of this size
abbrev pub parts_of : ℕ → ℕ → Parts
parts_of size step = record { size = size; more = most_of_a_size; left = step }

-- how many instructions no part has had
abbrev pub left_of : Parts → ℕ
left_of p = p.left

-- how many instructions the next part has: all that are left where no more of the size are to come
unfoldable pub next_part : Parts → ℕ
next_part p = cond (eqb p.more 0) p.left (min p.size p.left)

-- the parts after it
unfoldable pub after_part : Parts → Parts
after_part p = record { size = p.size; more = p.more - 1; left = p.left - next_part p }

-- how much a run in one adds to the limit besides, where the last part came to this number: nothing where it is refused
unfoldable pub missing : ℕ → Parts → ℕ
missing number p = cond (is_refusal number) 0 p.left
