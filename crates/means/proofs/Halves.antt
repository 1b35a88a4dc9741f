-- A fraction's nearest whole number is at most a half away from it. Nothing here is about floats.
use Rattle.std.proofs.Common.{◌≡◌, ℕ, suc, ◌+◌, ◌*◌, ◌/◌, ◌%◌, ◌≤◌, ◌<◌, add-mul, suc-mul, mul-le-mul_right, mod-lt, div-add-mod', arith, not, T, leb→le, eqb→eq}
use Prim.Native.Nat.{compare, Ordering}
use Rattle.std.proofs.Math.Dec.{is_le, compare_is_eq, nleb→lt}
use Rattle.std.specs.Float.Ieee.{nearest}
use Rattle.std.specs.Float.Ieee.Nearest.{closest}

-- x and n differ by at most half of u
pub record Half (x n u : ℕ) : Type 0 where
  pub above : x * 2 ≤ n * 2 + u
  pub below : n * 2 ≤ x * 2 + u

-- q whole units and a rest r, rounded by how twice the rest compares to the unit
half : (q r u : ℕ) (o : Ordering) → (T (is_le o) → r * 2 ≤ u) → (T (not (is_le o)) → u < r * 2) → (T (compare_is_eq o) → r * 2 ≡ u) → r < u → Half (nearest q o * u) (q * u + r) u
half q r u Ordering.lt le gt eq l = let h = le tt in record { above = omega arith; below = omega arith }
half q r u Ordering.eq le gt eq l =
    let h = eq tt in
    let e : (q + q % 2) * u ≡ q * u + q % 2 * u = add-mul q (q % 2) u in
    let b : q % 2 * u ≤ 1 * u = mul-le-mul_right u (bit q) in
    record { above = omega arith; below = omega arith }
  where
    bit : (q : ℕ) → q % 2 ≤ 1
    bit q = omega arith
half q r u Ordering.gt le gt eq l =
    let h = gt tt in
    let e : suc q * u ≡ q * u + u = suc-mul q u in
    record { above = omega arith; below = omega arith }

pub closest_half : (n u : ℕ) → 0 < u → Half (closest n u * u) n u
closest_half n u some =
    let r = n % u in
    rw div-add-mod' at (half (n / u) r u (compare (r * 2) u) (leb→le (r * 2) u) (nleb→lt (r * 2) u) (eqb→eq (r * 2) u) (mod-lt n some))
