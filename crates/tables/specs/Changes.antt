-- A stepping stone between contracts: a table whose counters at some addresses were changed, one address after the other.
use Rattle.std.specs.Prelude.{List, [], ◌∷◌, ℕ, ◌+◌, ◌<◌, ◌≤◌, length, get_or, set}
use Rattle.counting.specs.Counters.{occurrences}

-- each counter put through f
unfoldable pub changed : (ℕ → ℕ) → List ℕ → List ℕ → List ℕ
changed f [] table = table
changed f (a ∷ addresses) table = changed f addresses (set table a (f (get_or table a 0)))

-- one more at each address
abbrev pub added : List ℕ → List ℕ → List ℕ
added addresses table = changed (λ n. n + 1) addresses table

-- 0 at each address
abbrev pub wiped : List ℕ → List ℕ → List ℕ
wiped addresses table = changed (λ n. 0) addresses table

-- every address is below n
abbrev pub Inside : List ℕ → ℕ → Type 0
Inside [] n = Unit {0}
Inside (a ∷ addresses) n = (a < n) × Inside addresses n

-- the addresses can be counted: they are inside, and no counter passes what 32 bits hold
pub record Room (table addresses : List ℕ) : Type 0 where
  pub inside : Inside addresses (length table)
  pub small : (a : ℕ) → get_or table a 0 + occurrences a addresses ≤ 0xffff_ffff
