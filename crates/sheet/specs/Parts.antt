-- A stepping stone between contracts: the parts of an accepted sheet lie within its n bytes.
use Rattle.std.specs.Prelude.{ℕ, ◌+◌, ◌*◌, ◌≤◌}
use Rattle.sheet.specs.declared.parse.Sheet.{Sheet}

pub record PartsWithin (n : ℕ) (h : Sheet) : Type 0 where
  pub in_code : h.code.offset + h.code.length ≤ n
  pub in_data : h.«data».offset + h.«data».length ≤ n
  pub in_tape : h.tape_offset + 8 * h.tape_words ≤ n
