-- What the lengths of a row's lists decide: its shape.
use Rattle.std.proofs.Common.{List, ◌≡◌, ℕ, arith, length}
use Rattle.rows.specs.Rows.{Shape}

pub same_shape : (w x m n : List ℕ) → length x ≡ length w → length n ≡ length m → Shape w m → Shape x n
same_shape w x m n e f s = record { registers = omega (arith, s.registers); slots = omega (arith, s.slots) }
