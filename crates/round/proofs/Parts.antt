-- The front of a local array, after a callee has written it: what was written, and no longer than the array.
use Rattle.std.proofs.Common.{List, ◌++◌, ◌≡◌, ap, ◌∙◌, ℕ, ◌-◌, arith, length, take, drop, take_at}

-- an array lent as `&mut a[0..n]`, when `written` comes back for that part
abbrev pub given_back : {A : Type 0} → ℕ → List A → List A → List A
given_back n a written = written ++ drop (n - 0) a

-- its part `&a[0..n]`
abbrev pub front : {A : Type 0} → ℕ → List A → List A → List A
front n a written = take (n - 0) (given_back n a written)

module _ {A : Type 0} (n : ℕ) (a written : List A) {xs : List A} (is : written ≡ xs) (many : length xs ≡ n) where
  pub front_is : front n a written ≡ xs
  front_is = take_at written (drop (n - 0) a) (n - 0) (omega (arith, ap length is, many)) ∙ is
