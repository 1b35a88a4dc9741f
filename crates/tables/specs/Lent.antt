-- A table that is lent: its length, what a call leaves in it, and what a round counts in.
use Rattle.std.specs.Prelude.{Result, Ok, Err, List, ◌≡◌, ℕ, ◌<◌, eqb, length}
use Rattle.checks.specs.Tests.{Test, test}
use Rattle.checks.specs.declared.refusal.Refusal.{Refusal}
use Rattle.checks.specs.declared.refusal.Refusal.TheVariants.{TableLength}
use Rattle.tables.specs.Tables.{table_length, zeros}

-- 32: a table's length not exact, for rows of W memory words
abbrev pub table_test : ℕ → ℕ → Test
table_test w counters = test (eqb counters (table_length w)) TableLength

-- zero after every call that is not refused, whatever it held; as found after one that is
unfoldable pub table_left : Result (Unit {0}) Refusal → List ℕ → List ℕ
table_left (Ok t) table = zeros (length table)
table_left (Err f) table = table

-- what a round is lent: no counters, to count over the rows, or a table for rows of W memory words, all zero
pub record ZeroTable (w : ℕ) (table : List ℕ) : Type 0 where
  pub zero : table ≡ zeros (length table)
  pub exact : 0 < length table → length table ≡ table_length w
