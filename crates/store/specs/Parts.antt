-- A stepping stone between contracts: what is made of a flat list, before it is read as rows.
use Rattle.std.specs.Prelude.{List, ℕ, drop}
use Rattle.std.proofs.Math.Seq.{paste}

-- `count` elements from place `from` on are copied to place `to` on
abbrev pub part_copied : {A : Type 0} → ℕ → ℕ → ℕ → List A → List A
part_copied from to count l = paste l to (drop from l) count

-- `count` elements from place a on and from place b on change places
abbrev pub parts_swapped : {A : Type 0} → ℕ → ℕ → ℕ → List A → List A
parts_swapped a b count l = paste (paste l a (drop b l) count) b (drop a l) count
