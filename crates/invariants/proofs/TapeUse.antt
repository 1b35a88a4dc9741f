-- A run never uses more words than the tape has: what is left of it is a part of it.
use Rattle.std.proofs.Common.{List, ◌≡◌, refl, ap, ap₂, ◌∙◌, subst, ℕ, ◌+◌, ◌-◌, ◌≤◌, arith, length, length-set}
use Rattle.rows.specs.Rows.{Row, depth_of, limit_of, log_start, memory_words, mark_of, set_word, set_slot, set_limit}
use Rattle.reading.specs.Reading.{drawn}
use Rattle.machine.specs.Runs.{run_of}
use Rattle.invariants.proofs.Alike.{Same, logged}
use Rattle.invariants.proofs.AlikeReading.{Drawing, drawing_alike}
use Rattle.invariants.proofs.AlikeRuns.{run_for_alike}

-- one row, and a used count of at most the tape's words
module _ (tape : List ℕ) (w : ℕ) where
  pub record Within (u : ℕ) (r : Row) (v : ℕ) (s : Row) : Type 0 where
    pub memory : memory_words r ≡ w
    pub one : r ≡ s
    pub used : u ≡ v
    pub within : u ≤ length tape

  within_same : {u v : ℕ} {r s : Row} → Within u r v s → Same r s
  within_same {r = r} h = subst (λ (s : Row). Same r s) h.one (record { pc = refl; break = refl; depth = refl; slots = refl; marks = refl })

  pub within_tape : Drawing w tape tape Within
  within_tape =
      record {
        same = within_same;
        memory = λ h. h.memory;
        to_header = λ i x k h. record { memory = h.memory; one = ap (set_word i x) h.one; used = h.used; within = h.within };
        to_slot = λ {r = r} n x k l h.
            record { memory = ap (λ (m : ℕ). m - 32) (length-set r.marks n (mark_of x)) ∙ h.memory; one = ap (set_slot n x) h.one; used = h.used; within = h.within };
        draws = λ h. ap₂ (λ (u : ℕ) (r : Row). drawn (log_start r) tape u r) h.used h.one;
        to_log = λ x k l h. record { memory = h.memory; one = ap (logged x) h.one; used = ap (λ (u : ℕ). u + 1) h.used; within = omega (arith, l) };
      }

pub run_used : (step : ℕ) (tape : List ℕ) (used : ℕ) (r : Row) → used ≤ length tape → (run_of step tape used r).ran.used ≤ length tape
unfolding run_of
run_used step tape used r h =
    let w = memory_words r in
    let s = set_limit (limit_of r + step) r in
    (run_for_alike w tape tape (Within tape w) (drawing_alike w tape tape (Within tape w) (within_tape tape w)) (limit_of r + step - depth_of r) used used s s
    (record { memory = refl; one = refl; used = refl; within = h })).rows.within
