-- The word `born` of a row in which an executor is made.
use Rattle.std.proofs.Common.{◌≡◌, ap, ◌∙◌, Ok, Err, ℕ, length}
use Rattle.checks.specs.declared.refusal.Refusal.{Refusal}
use Rattle.loader.proofs.Kept.{new_born}
use Rattle.loader.specs.Loading.{Program, new_executor}
use Rattle.rows.specs.Rows.{Row, born_of}
use Rattle.executor.specs.Entries.{creation_checked, BornAtZero}
use Rattle.executor.proofs.Accepted.{Sizes}

module _ (memory log : ℕ) (p : Program) (r : Row) where
  -- what is refused is not accepted, so that nothing is asked of the row
  pub not_accepted : {A : Type 0} {f : Refusal} → Err f ≡ creation_checked memory log p r → creation_checked memory log p r ≡ Ok tt → A
  not_accepted {f = f} refused accepted = let no : Err f ≡ Ok tt = refused ∙ accepted in cc

  pub made_born : {after : Row} → Sizes memory r → after ≡ new_executor p (length r.words) (length r.marks) → BornAtZero memory log p r after
  made_born sizes made accepted = ap born_of made ∙ new_born p (length r.words) (length r.marks) sizes.some_memory sizes.shape.slots
