-- How long a state's list is, and between what its counters lie.
use Rattle.std.proofs.Common.{◌≡◌, refl, sym, ap, ◌∙◌, subst, List, [], ◌∷◌, ℕ, zero, suc, ◌+◌, ◌*◌, ◌/◌, ◌%◌, ◌≤◌, ◌<◌, le_of_eq, add-one, arith, cond, eqb, lit≤, length, length-append, eq-eqb}
use mathlib.Core.List.{Memᴰ}
use Rattle.values.specs.declared.Value.{Value}
use Rattle.values.specs.declared.Value.TheVariants.{Concrete, Uninitialized}
use Rattle.rows.specs.Rows.{Row, pc_of}
use Rattle.counting.specs.Cells.{place_at, places, address_of, byte_addresses, word_addresses, addresses_to, addresses_of}
use Rattle.counting.specs.Counters.{occurrences, counter_in}
use Rattle.counting.proofs.Probes.{occurrences_most}

pub bytes_length : (place x b : ℕ) → length (byte_addresses place x b) ≡ b
unfolding byte_addresses
bytes_length place x zero = refl
bytes_length place x (suc b) = length-append (byte_addresses place x b) (_ ∷ []) ∙ ap (λ (z : ℕ). z + 1) (bytes_length place x b) ∙ add-one b

word_length : (place : ℕ) (v : Value) → length (word_addresses place v) ≤ 8
word_length place (Concrete x) = le_of_eq (bytes_length place x 8)
word_length place Uninitialized = lit≤ tt

pub length_most : (n : ℕ) (r : Row) → length (addresses_to n r) ≤ 8 * n
unfolding addresses_to
length_most zero r = lit≤ tt
length_most (suc n) r = simp length-append (omega (arith, length_most n r, word_length n (place_at r n)))

-- pc, place 0, is always concrete
length_least : (n : ℕ) (r : Row) → 8 ≤ length (addresses_to (suc n) r)
unfolding addresses_to place_at
length_least zero r = le_of_eq (sym (bytes_length 0 (pc_of r) 8))
length_least (suc n) r = simp length-append (omega (arith, simp length-append at (length_least n r)))

pub addresses_length : (r : Row) → (8 ≤ length (addresses_of r)) × (length (addresses_of r) ≤ 8 * places r)
addresses_length r = (length_least (length r.marks) r, length_most (places r) r)

-- a number as a cell together with a byte value
pub record Address (a : ℕ) : Type 0 where
  pub cell : ℕ
  pub byte : ℕ
  pub made : a ≡ address_of cell byte
  pub small : byte < 256

pub address : (a : ℕ) → Address a
address a = record { cell = a / 256; byte = a % 256; made = omega arith; small = omega arith }

-- what is in a list occurs in it
occurs_first : (a x n : ℕ) → a ≡ x → 1 ≤ cond (eqb x a) 1 0 + n
occurs_first a x n e = rw (eq-eqb x a (sym e)) (omega arith)

occurs : {a : ℕ} {xs : List ℕ} → Memᴰ a xs → 1 ≤ occurrences a xs
unfolding occurrences
occurs {a} (Memᴰ.head {x} {xs} e) = occurs_first a x (occurrences a xs) e
occurs (Memᴰ.tail m) = omega (arith, occurs m)

pub counter_least : {a : ℕ} {r : Row} {rows : List Row} → Memᴰ r rows → Memᴰ a (addresses_of r) → 1 ≤ counter_in rows a
unfolding counter_in
counter_least {a} (Memᴰ.head {x} e) m =
    let here : 1 ≤ occurrences a (addresses_of x) = subst (λ (z : Row). 1 ≤ occurrences a (addresses_of z)) e (occurs m) in omega arith
counter_least (Memᴰ.tail t) m = omega (arith, counter_least t m)

row_most : (a : ℕ) (r : Row) → occurrences a (addresses_of r) ≤ 8
row_most a r =
    let d = address a in
    subst (λ (z : ℕ). occurrences z (addresses_of r) ≤ 8) (sym d.made) (occurrences_most d.cell d.byte r d.small)

pub counter_most : (a : ℕ) (rows : List Row) → counter_in rows a ≤ 8 * length rows
unfolding counter_in
counter_most a [] = lit≤ tt
counter_most a (r ∷ rows) = omega (arith, row_most a r, counter_most a rows)
