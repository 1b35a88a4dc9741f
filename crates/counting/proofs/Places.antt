-- The places of a row and the cells of their lowest bytes: a place is found at its base, and only there.
use Rattle.std.proofs.Common.{◌≡◌, ℕ, zero, suc, ◌+◌, ◌-◌, ◌<◌, ◌≤◌, Bool, true, false, cond, eqb, ltb, Some, None, refl, sym, ap, ◌∙◌, arith, lit≤, ltb-true, ltb-false, eqb-true, lt-ltb, le-ltb, ne_eqb}
use Rattle.counting.specs.Cells.{first_memory_place, first_register_cell, first_memory_cell, base_of}
use Rattle.counting.specs.Probes.{place_of}

back : (n : ℕ) → suc n - 1 ≡ n
back n = omega arith

pub base_slot : (place : ℕ) → (place ≡ 0 → ⊥) → base_of place ≡ cond (ltb (place - 1) 32) (first_register_cell + (place - 1)) (first_memory_cell + (place - 1 - 32))
unfolding base_of
base_slot zero h = absurd (h refl)
base_slot (suc n) h = rw (back n)

pub base_zero : base_of 0 ≡ 0
unfolding base_of
base_zero = refl

base_register : (n : ℕ) → n < 32 → base_of (suc n) ≡ first_register_cell + n
unfolding base_of
base_register n h = rw (lt-ltb n 32 h)

base_memory : (n : ℕ) → 32 ≤ n → base_of (suc n) ≡ first_memory_cell + (n - 32)
unfolding base_of
base_memory n h = rw (le-ltb n 32 h)

place_register : (base : ℕ) → first_register_cell ≤ base → base - first_register_cell < 32 → place_of base ≡ Some (1 + (base - first_register_cell))
unfolding place_of
place_register base l h = rw (ne_eqb base 0 (λ e. omega arith), le-ltb base first_register_cell l, lt-ltb (base - first_register_cell) 32 h)

place_memory : (base : ℕ) → first_memory_cell ≤ base → place_of base ≡ Some (first_memory_place + (base - first_memory_cell))
unfolding place_of
place_memory base l =
    rw (
      ne_eqb base 0 (λ e. omega arith),
      le-ltb base first_register_cell (omega arith),
      le-ltb (base - first_register_cell) 32 (omega arith),
      le-ltb base first_memory_cell l,
    )

-- every place is found at its base
pub place_base : (place : ℕ) → place_of (base_of place) ≡ Some place
unfolding place_of base_of
place_base zero = refl
place_base (suc n) = go (ltb n 32) refl
  where
    go : (t : Bool) → ltb n 32 ≡ t → place_of (base_of (suc n)) ≡ Some (suc n)
    go true e =
        let l : n < 32 = ltb-true n 32 e in
        ap place_of (base_register n l) ∙ place_register (first_register_cell + n) (omega arith) (omega arith) ∙ ap Some (omega arith)
    go false e =
        let l : 32 ≤ n = ltb-false n 32 e in
        ap place_of (base_memory n l) ∙ place_memory (first_memory_cell + (n - 32)) (omega arith) ∙ ap Some (omega arith)

-- and only there
pub base_place : (base place : ℕ) → place_of base ≡ Some place → base_of place ≡ base
unfolding place_of
base_place base place h = go (eqb base 0) (ltb base first_register_cell) (ltb (base - first_register_cell) 32) (ltb base first_memory_cell) refl refl refl refl h
  where
    go : (t u v w : Bool) → eqb base 0 ≡ t → ltb base first_register_cell ≡ u → ltb (base - first_register_cell) 32 ≡ v → ltb base first_memory_cell ≡ w
        → cond t (Some 0) (cond u None (cond v (Some (1 + (base - first_register_cell))) (cond w None (Some (first_memory_place + (base - first_memory_cell))))))
        ≡ Some place → base_of place ≡ base
    go true u v w zero? low? register? gap? e =
        let at : 0 ≡ place = cc in
        ap base_of (sym at) ∙ base_zero ∙ sym (eqb-true base 0 zero?)
    go false true v w zero? low? register? gap? e = cc
    go false false true w zero? low? register? gap? e =
        let at : 1 + (base - first_register_cell) ≡ place = cc in
        ap base_of (omega arith)
        ∙ base_register (base - first_register_cell) (ltb-true (base - first_register_cell) 32 register?)
        ∙ omega (arith, ltb-false base first_register_cell low?)
    go false false false true zero? low? register? gap? e = cc
    go false false false false zero? low? register? gap? e =
        let at : first_memory_place + (base - first_memory_cell) ≡ place = cc in
        let l : first_memory_cell ≤ base = ltb-false base first_memory_cell gap? in
        ap base_of (omega arith) ∙ base_memory (32 + (base - first_memory_cell)) (omega arith) ∙ omega arith

-- a place's cells are within a usize
pub base_most : (place : ℕ) → base_of place ≤ first_memory_cell + place
unfolding base_of
base_most zero = lit≤ tt
base_most (suc n) = either (ltb n 32)
  where
    either : (t : Bool) → cond t (first_register_cell + n) (first_memory_cell + (n - 32)) ≤ first_memory_cell + suc n
    either true = omega arith
    either false = omega arith
