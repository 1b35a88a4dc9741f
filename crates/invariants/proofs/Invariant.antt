-- What every write of an instruction keeps, an instruction keeps.
use Rattle.std.proofs.Common.{List, ◌≡◌, refl, ap, ap₂, subst, ℕ, ◌+◌, ◌<◌}
use Rattle.values.specs.declared.Value.{Value}
use Rattle.rows.specs.Rows.{Row, log_start, log_count, log_room, memory_words, set_word, set_slot}
use Rattle.reading.specs.Reading.{drawn}
use Rattle.machine.specs.Steps.{advanced}
use Rattle.invariants.proofs.Alike.{Same, logged}
use Rattle.invariants.proofs.AlikeReading.{Drawing, Always, drawing_alike}
use Rattle.invariants.proofs.AlikeSteps.{advanced_alike}

-- P holds of rows of w memory words; writes are to pc, break or depth, to registers 1 to 31 or memory, and to the end of a log with room
pub record Invariant (w : ℕ) (P : Row → Type 0) : Type 0 where
  pub memory : (r : Row) → P r → memory_words r ≡ w
  pub to_header : (r : Row) (i x : ℕ) → i < 3 → P r → P (set_word i x r)
  pub to_slot : (r : Row) (n : ℕ) (v : Value) → 0 < n → n < 32 + w → P r → P (set_slot n v r)
  pub to_log : (r : Row) (x : ℕ) → log_count r < log_room r → P r → P (logged x r)

-- a row is alike to itself
module _ (w : ℕ) (P : Row → Type 0) (kept : Invariant w P) (tape : List ℕ) where
  record One (u : ℕ) (r : Row) (v : ℕ) (s : Row) : Type 0 where
    used : u ≡ v
    one : r ≡ s
    holds : P r

  one_same : {u v : ℕ} {r s : Row} → One u r v s → Same r s
  one_same {r = r} h = subst (λ (s : Row). Same r s) h.one (record { pc = refl; break = refl; depth = refl; slots = refl; marks = refl })

  one_alike : Drawing w tape tape One
  one_alike =
      record {
        same = one_same;
        memory = λ {r = r} h. kept.memory r h.holds;
        to_header = λ {r = r} i x k h. record { used = h.used; one = ap (set_word i x) h.one; holds = kept.to_header r i x k h.holds };
        to_slot = λ {r = r} n x k l h. record { used = h.used; one = ap (set_slot n x) h.one; holds = kept.to_slot r n x k l h.holds };
        draws = λ h. ap₂ (λ (u : ℕ) (r : Row). drawn (log_start r) tape u r) h.used h.one;
        to_log = λ {r = r} x k l h. record { used = ap (λ (u : ℕ). u + 1) h.used; one = ap (logged x) h.one; holds = kept.to_log r x k h.holds };
      }

  pub advanced_keeps : (used : ℕ) (r : Row) → P r → P (advanced tape used r).row
  advanced_keeps used r h =
      (advanced_alike w tape tape One Always (drawing_alike w tape tape One one_alike) used used r r
      (record { used = refl; one = refl; holds = h }) tt).rows.holds
