-- The eight probes of a row find every occurrence of a byte in a cell, so that a row has at most eight.
use Rattle.std.proofs.Common.{◌≡◌, ℕ, zero, suc, ◌+◌, ◌-◌, ◌*◌, ◌/◌, ◌^◌, ◌<◌, ◌≤◌, Bool, true, false, cond, eqb, ltb, List, [], ◌∷◌, ◌++◌, length, Option, Some, None, refl, sym, ap, ap₂, ◌∙◌, arith, add-zero, zero-add, add_assoc, le_trans, le_of_eq, mod-lt, lit≤, ltb-true, ltb-false, eqb-true, eq-eqb, ne_eqb}
use Rattle.std.proofs.lemmas.Bool.{eqb-false}
use Rattle.laws.proofs.Absurd.{impossible}
use Rattle.laws.proofs.Sums.{sum, sum_same, sum_none, sum_one, sum_swap, sum_most}
use Rattle.values.specs.Values.{byte_of}
use Rattle.values.specs.declared.Value.{Value}
use Rattle.values.specs.declared.Value.TheVariants.{Concrete, Uninitialized}
use Rattle.rows.specs.Rows.{Row}
use Rattle.counting.specs.Cells.{place_at, places, cell_of, address_of, byte_addresses, word_addresses, addresses_to, addresses_of}
use Rattle.counting.specs.Counters.{occurrences}
use Rattle.counting.specs.Probes.{place_of, matches, matches_at, probe}
use Rattle.counting.proofs.Places.{place_base, base_place}

-- 1 where it is so, else 0
abbrev pub one_if : Bool → ℕ
one_if t = cond t 1 0

-- whether the row has the byte in the cell as byte b of a word: 1 or 0
abbrev pub probed : Row → ℕ → ℕ → ℕ → ℕ
probed r cell byte b = one_if (probe r cell byte b)

pub occurrences_append : (a : ℕ) (xs ys : List ℕ) → occurrences a (xs ++ ys) ≡ occurrences a xs + occurrences a ys
unfolding occurrences
occurrences_append a [] ys = sym (zero-add (occurrences a ys))
occurrences_append a (x ∷ xs) ys =
    ap (λ (z : ℕ). cond (eqb x a) 1 0 + z) (occurrences_append a xs ys)
    ∙ sym (add_assoc (cond (eqb x a) 1 0) (occurrences a xs) (occurrences a ys))

-- ---- what a word adds
-- whether byte b of the value at a place is the address: 1 or 0
abbrev holds : ℕ → ℕ → ℕ → Value → ℕ
holds a b place (Concrete x) = cond (eqb (address_of (cell_of place b) (byte_of x b)) a) 1 0
holds a b place Uninitialized = 0

bytes_sum : (a place x b : ℕ) → occurrences a (byte_addresses place x b) ≡ sum (λ (i : ℕ). holds a i place (Concrete x)) b
unfolding occurrences byte_addresses sum
bytes_sum a place x zero = refl
bytes_sum a place x (suc b) =
    occurrences_append a (byte_addresses place x b) (address_of (cell_of place b) (byte_of x b) ∷ [])
    ∙ ap₂ (λ (y z : ℕ). y + z) (bytes_sum a place x b) (add-zero (holds a b place (Concrete x)))

word_sum : (a place : ℕ) (v : Value) → occurrences a (word_addresses place v) ≡ sum (λ (i : ℕ). holds a i place v) 8
unfolding occurrences sum
word_sum a place (Concrete x) = bytes_sum a place x 8
word_sum a place Uninitialized = refl

row_sum : (a n : ℕ) (r : Row) → occurrences a (addresses_to n r) ≡ sum (λ (p : ℕ). sum (λ (i : ℕ). holds a i p (place_at r p)) 8) n
unfolding occurrences addresses_to sum
row_sum a zero r = refl
row_sum a (suc n) r =
    occurrences_append a (addresses_to n r) (word_addresses n (place_at r n))
    ∙ ap₂ (λ (y z : ℕ). y + z) (row_sum a n r) (word_sum a n (place_at r n))

byte_small : (x b : ℕ) → byte_of x b < 256
byte_small x b = mod-lt (x / 2 ^ (8 * b)) (lit≤ tt)

module _ (cell byte : ℕ) (small : byte < 256) where
  holds_elsewhere : (b place : ℕ) (v : Value) → (cell_of place b ≡ cell → ⊥) → holds (address_of cell byte) b place v ≡ 0
  holds_elsewhere b place (Concrete x) h =
      rw (ne_eqb (address_of (cell_of place b) (byte_of x b)) (address_of cell byte) (λ e. h (omega (arith, byte_small x b))))
  holds_elsewhere b place Uninitialized h = refl

  holds_here : (b place : ℕ) (v : Value) → cell_of place b ≡ cell → holds (address_of cell byte) b place v ≡ one_if (matches byte b v)
  unfolding matches
  holds_here b place (Concrete x) h = ap one_if (go (eqb (byte_of x b) byte) refl)
    where
      go : (t : Bool) → eqb (byte_of x b) byte ≡ t → eqb (address_of (cell_of place b) (byte_of x b)) (address_of cell byte) ≡ t
      go true e = eq-eqb (address_of (cell_of place b) (byte_of x b)) (address_of cell byte) (omega (arith, eqb-true (byte_of x b) byte e))
      go false e =
          ne_eqb (address_of (cell_of place b) (byte_of x b)) (address_of cell byte)
          (λ d. eqb-false (byte_of x b) byte e (omega (arith, byte_small x b)))
  holds_here b place Uninitialized h = refl

  -- of all places, only the one that is looked at can have its byte b in the cell
  probe_sum : (r : Row) (b : ℕ) → sum (λ (p : ℕ). holds (address_of cell byte) b p (place_at r p)) (places r) ≡ probed r cell byte b
  unfolding probe
  probe_sum r b = go (ltb cell (8 * b)) (place_of (cell - 8 * b)) refl refl
    where
      f : ℕ → ℕ
      f p = holds (address_of cell byte) b p (place_at r p)

      found : (p : ℕ) (h : Option ℕ) → 8 * b ≤ cell → place_of (cell - 8 * b) ≡ h → cell_of p b ≡ cell → h ≡ Some p
      found p h l e d = sym e ∙ ap place_of (omega arith) ∙ place_base p

      at : (q : ℕ) (t : Bool) → ltb (length r.marks) q ≡ t → 8 * b ≤ cell → place_of (cell - 8 * b) ≡ Some q
          → sum f (places r) ≡ one_if (cond t false (matches byte b (place_at r q)))
      at q true out l e =
          sum_none f (places r) (λ p m. holds_elsewhere b p (place_at r p) (λ d.
          let same : Some q ≡ Some p = found p (Some q) l e d in
          let eq : q ≡ p = cc in
          omega (arith, ltb-true (length r.marks) q out)))
      at q false out l e =
          sum_one f (places r) q (omega (arith, ltb-false (length r.marks) q out)) (λ p m. holds_elsewhere b p (place_at r p) (λ d.
          let same : Some q ≡ Some p = found p (Some q) l e d in
          let eq : p ≡ q = cc in
          m eq))
          ∙ holds_here b q (place_at r q) (omega (arith, base_place (cell - 8 * b) q e))

      go : (t : Bool) (h : Option ℕ) → ltb cell (8 * b) ≡ t → place_of (cell - 8 * b) ≡ h → sum f (places r) ≡ one_if (cond t false (matches_at r byte b h))
      go true h below e = sum_none f (places r) (λ p m. holds_elsewhere b p (place_at r p) (λ d. omega (arith, ltb-true cell (8 * b) below)))
      go false None below e =
          sum_none f (places r) (λ p m. holds_elsewhere b p (place_at r p) (λ d.
          let same : None ≡ Some p = found p None (ltb-false cell (8 * b) below) e d in
          impossible cc))
          ∙ unfold matches_at in refl
      go false (Some q) below e =
          at q (ltb (length r.marks) q) refl (ltb-false cell (8 * b) below) e
          ∙ unfold matches_at in refl

-- the sum of the eight probes is how often the address occurs in the row's list
pub hits_occur : (cell byte : ℕ) (r : Row) → byte < 256 → sum (probed r cell byte) 8 ≡ occurrences (address_of cell byte) (addresses_of r)
hits_occur cell byte r h =
    sym (row_sum (address_of cell byte) (places r) r
    ∙ sum_swap (λ (p i : ℕ). holds (address_of cell byte) i p (place_at r p)) (places r) 8
    ∙ sum_same (λ (i : ℕ). sum (λ (p : ℕ). holds (address_of cell byte) i p (place_at r p)) (places r)) (probed r cell byte) 8 (probe_sum cell byte h r))

-- ---- at most one a probe
one_most : (t : Bool) → one_if t ≤ 1
one_most true = lit≤ tt
one_most false = lit≤ tt

pub occurrences_most : (cell byte : ℕ) (r : Row) → byte < 256 → occurrences (address_of cell byte) (addresses_of r) ≤ 8
occurrences_most cell byte r h =
    le_trans (le_of_eq (sym (hits_occur cell byte r h))) (sum_most (probed r cell byte) 8 (λ b. one_most (probe r cell byte b)))
