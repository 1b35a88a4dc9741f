-- An entry makes a new executor that can run, or is refused; either way it leaves what its definition says.
use Rattle.std.proofs.Common.{Result, Ok, Err, List, ◌≡◌, refl, sym, ap, ◌∙◌, ℕ, length}
use Rattle.laws.proofs.Absurd.{impossible}
use Rattle.rows.specs.Rows.{Row, Shape, limit_of}
use Rattle.loader.specs.Loading.{Program, new_executor}
use Rattle.loader.proofs.Kept.{new_words, new_marks, new_limit}
use Rattle.loader.proofs.Lengths.{same_shape}
use Rattle.checks.specs.Tests.{checked_by}
use Rattle.checks.specs.declared.refusal.Refusal.{Refusal}
use Rattle.executor.specs.Entries.{size_tests, creation_checked, created_row}
use Rattle.executor.proofs.Accepted.{Sizes, sizes_accepted, creation_refused}
use Rattle.runner.specs.Serving.{served_of}
use Rattle.runner.specs.Entry.{Left, left, left_by, refused, served_entry, run_program}
use Rattle.runner.specs.declared.Printed.{Printed}

-- new is what c, the verdict on the sizes and the program, made of the lent row r
module _ (memory log : ℕ) (p : Program) (r : Row) {c : Result (Unit {0}) Refusal} (e : c ≡ creation_checked memory log p r)
    {new : Row} (n : new ≡ created_row c p r) where
  module _ (h : c ≡ Ok tt) where
    sized : (sizes : Result (Unit {0}) Refusal) → sizes ≡ checked_by (size_tests memory log r) → Sizes memory r
    sized (Ok t) s = sizes_accepted memory log r s refl
    sized (Err f) s = let k : Err f ≡ Ok tt = creation_refused memory log r s p refl ∙ sym e ∙ h in impossible cc

    lent : Sizes memory r
    lent = sized (checked_by (size_tests memory log r)) refl

    made : new ≡ new_executor p (length r.words) (length r.marks)
    unfolding created_row
    made = n ∙ rw h

    -- a new executor can run
    pub new_shape : Shape new.words new.marks
    new_shape =
        let words = ap (λ (x : Row). length x.words) made ∙ new_words p (length r.words) (length r.marks) in
        let marks = ap (λ (x : Row). length x.marks) made ∙ new_marks p (length r.words) (length r.marks) in
        same_shape r.words new.words r.marks new.marks words marks lent.shape

    pub new_low : limit_of new ≡ 0
    new_low = ap limit_of made ∙ new_limit p (length r.words) (length r.marks) lent.some_memory lent.shape.slots

  module _ (step : ℕ) (input output : List ℕ) where
    entered : served_entry c step input new output ≡ run_program memory log step p input r output
    unfolding run_program
    entered = rw (n, e)

    pub served : c ≡ Ok tt → {x : Left} → x ≡ left_by (served_of step input (length output) 0 new) output → x ≡ run_program memory log step p input r output
    unfolding served_entry
    served h e = e ∙ (rw h at entered)

    pub turned_away : {f : Refusal} → c ≡ Err f
        → {x : Printed} → x ≡ refused f → left new.words new.marks output x ≡ run_program memory log step p input r output
    unfolding served_entry
    turned_away h g = rw g (rw h at entered)
