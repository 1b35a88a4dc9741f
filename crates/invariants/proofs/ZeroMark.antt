-- A run never changes the mark of register 0: no instruction writes to slot 0.
use Rattle.std.proofs.Common.{List, ◌≡◌, refl, ap, ◌∙◌, ℕ, ◌-◌, arith, get_or, length-set, get_or-set_other}
use Rattle.rows.specs.Rows.{Row, memory_words, mark_of}
use Rattle.machine.specs.Runs.{run_of}
use Rattle.invariants.proofs.Invariant.{Invariant, advanced_keeps}
use Rattle.invariants.proofs.Runs.{run_keeps}

-- rows of w memory words whose mark of register 0 is z
record Marked (w z : ℕ) (r : Row) : Type 0 where
  memory : memory_words r ≡ w
  mark : get_or r.marks 0 0 ≡ z

invariant : (w z : ℕ) → Invariant w (Marked w z)
invariant w z =
    record {
      memory = λ r h. h.memory;
      to_header = λ r i x k h. record { memory = h.memory; mark = h.mark };
      to_slot = λ r n v k l h.
          record {
            memory = ap (λ (m : ℕ). m - 32) (length-set r.marks n (mark_of v)) ∙ h.memory;
            mark = get_or-set_other r.marks n 0 (mark_of v) 0 (λ e. omega arith) ∙ h.mark;
          };
      to_log = λ r x k h. record { memory = h.memory; mark = h.mark };
    }

pub run_zero_mark : (step : ℕ) (tape : List ℕ) (used : ℕ) (r : Row) → get_or (run_of step tape used r).row.marks 0 0 ≡ get_or r.marks 0 0
run_zero_mark step tape used r =
    let w = memory_words r in
    let z = get_or r.marks 0 0 in
    (run_keeps (Marked w z) tape (advanced_keeps w (Marked w z) (invariant w z) tape) step used r (record { memory = refl; mark = refl })).mark
