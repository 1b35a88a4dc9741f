-- A part of a slice that goes to its end.
use Rattle.std.proofs.Common.{◌≡◌, List, ℕ, ◌-◌, le_of_eq, length, take, drop, length-drop, take_all}

pub to_end : (n : ℕ) (l : List ℕ) → take (length l - n) (drop n l) ≡ drop n l
to_end n l = take_all (length l - n) (drop n l) (le_of_eq (length-drop n l))
