-- A table that is lent: what a call leaves in it, and that rounds can count in it once it is cleared.
use Rattle.std.proofs.Common.{◌≡◌, refl, sym, ap, ◌∙◌, List, ℕ, length, Result, Ok, Err}
use Rattle.std.proofs.lemmas.List.{length-replicate}
use Rattle.checks.specs.declared.refusal.Refusal.{Refusal}
use Rattle.tables.specs.Tables.{table_length, zeros}
use Rattle.tables.specs.Lent.{table_left, ZeroTable}

pub cleared : {w : ℕ} (table : List ℕ) {after : List ℕ} → length table ≡ table_length w → after ≡ zeros (length table) → ZeroTable w after
cleared {w} table exact z =
    let many : length (zeros (length table)) ≡ length table = length-replicate (length table) 0 in
    rw z (record { zero = ap zeros (sym many); exact = λ _. many ∙ exact })

-- what the tests decide
module _ (table : List ℕ) {tested checked : Result (Unit {0}) Refusal} (e : tested ≡ checked) where
  pub table_kept : (f : Refusal) → tested ≡ Err f → table ≡ table_left checked table
  unfolding table_left
  table_kept f h = rw (← e, h) refl

  pub table_cleared : {after : List ℕ} → tested ≡ Ok tt → after ≡ zeros (length table) → after ≡ table_left checked table
  unfolding table_left
  table_cleared h z = rw (← e, h) z
