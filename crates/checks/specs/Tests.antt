-- The tests that an entry makes before it changes anything, as a list in the order in which it makes them.
use Rattle.std.specs.Prelude.{Result, Ok, Err, Bool, cond, List, [], ◌∷◌}
use Rattle.checks.specs.declared.refusal.Refusal.{Refusal}

-- a test, and the refusal that is given where it fails
pub record Test : Type 0 where
  pub passes : Bool
  pub refusal : Refusal

abbrev pub test : Bool → Refusal → Test
test passes refusal = record { passes = passes; refusal = refusal }

-- the first test that fails refuses
unfoldable pub checked_by : List Test → Result (Unit {0}) Refusal
checked_by [] = Ok tt
checked_by (t ∷ tests) = cond t.passes (checked_by tests) (Err t.refusal)
