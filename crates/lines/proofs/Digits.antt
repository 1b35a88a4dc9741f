-- The digits that the kit's `decimal` finds are those of the definition.
use Rattle.std.proofs.Common.{◌≡◌, ap, subst, List, [], ◌∷◌, ◌++◌, ℕ, zero, suc, ◌-◌, ◌+◌, ◌*◌, ◌/◌, ◌%◌, ◌^◌, ◌≤◌, ◌<◌, mod-lt, mod-eq_of_lt, arith, lt-ltb, le-ltb}
use Rattle.std.proofs.Math.Nat.{pow-succ', pow-le-pow_right}
use Rattle.io.specs.Digits.{last_digits, IsDigitCount}
use Rattle.lines.specs.Lines.{digits_up_to, decimal}

-- the fewest digits that hold n are its decimal digits
digits_are : (k r n : ℕ) → r ≤ k → IsDigitCount 10 1 n r → last_digits 10 r n ≡ digits_up_to k n
unfolding digits_up_to
digits_are k zero n h f = absurd (omega (arith, f.0))
digits_are zero (suc r) n h f = absurd (omega arith)
digits_are (suc k) (suc zero) n h f = simp (mod-eq_of_lt f.1, lt-ltb n 10 f.1)
digits_are (suc k) (suc (suc r)) n h f =
    let lo : 10 ^ suc r ≤ n = subst (λ (e : ℕ). 10 ^ e ≤ n) {x = suc (suc r) - 1} {y = suc r} (omega arith) (f.2 (omega arith)) in
    let hi : n < 10 * 10 ^ suc r = subst (λ (e : ℕ). n < e) (pow-succ' 10 (suc r)) f.1 in
    let one : 1 ≤ 10 ^ r = pow-le-pow_right {n = 10} (omega arith) {i = 0} {j = r} (omega arith) in
    let step : 10 ^ suc r ≡ 10 * 10 ^ r = pow-succ' 10 r in
    let last : 10 ^ (suc r - 1) ≤ n / 10 = subst (λ (e : ℕ). 10 ^ e ≤ n / 10) {x = r} (omega arith) (omega arith) in
    let up : last_digits 10 (suc r) (n / 10) ≡ digits_up_to k (n / 10) =
    digits_are k (suc r) (n / 10) (omega arith) (omega arith, omega arith, λ _. last) in
    let small : n % 10 < 10 = mod-lt n (omega arith) in
    let big : 10 ≤ n = omega arith in
    rw (le-ltb n 10 big, lt-ltb (n % 10) 10 small) (ap (λ (l : List ℕ). l ++ ((48 + n % 10) ∷ [])) up)

-- so the digits that the kit's `decimal` finds, of which there are at most 20, are the decimal ones
pub decimal_is : (n r : ℕ) → r ≤ 20 → IsDigitCount 10 1 n r → last_digits 10 r n ≡ decimal n
decimal_is n r = digits_are 20 r n
