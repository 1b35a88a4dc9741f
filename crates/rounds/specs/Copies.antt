-- How many of the missing executors are copies ("Filling" in document 01).
use Rattle.std.specs.Prelude.{true, false, cond, ℕ, ◌+◌, ◌-◌, ◌*◌, ◌/◌, eqb, pos, Float}
use Rattle.std.specs.Float.{nan, inf, fin, binary64}
use Rattle.std.specs.Float.Ieee.{mul, of_int, up, down}

-- the whole number nearest to x, halves up; x is (m × up e) / down e. Below zero there is nothing to copy: the Rust's cast of a negative float
-- is 0, and so is that of -0.0. No whole number is nearest to nan or to an infinity: 0 stands for it, and no ratio from 0 to 1 leads there
unfoldable pub nearest : Float → ℕ
nearest nan = 0
nearest (inf s) = 0
nearest (fin true m e) = 0
nearest (fin false m e) = (2 * (m * up e) + down e) / (2 * down e)

-- missing × ratio, one f64 product, rounded to the nearest whole number, halves up
unfoldable pub to_copy : ℕ → Float → ℕ
to_copy missing ratio = nearest (mul binary64 (of_int binary64 (pos missing)) ratio)

-- of so many rows, so many being kept; 0 if none are kept
abbrev pub copies_of : ℕ → ℕ → Float → ℕ
copies_of rows kept ratio = cond (eqb kept 0) 0 (to_copy (rows - kept) ratio)
