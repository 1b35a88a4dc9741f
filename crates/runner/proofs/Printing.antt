-- The part of an output that the bytes of a write call go to: lent, and come back with them.
use Rattle.std.proofs.Common.{List, ◌++◌, append_assoc, ◌≡◌, refl, sym, ap, ◌∙◌, ℕ, zero, suc, ◌+◌, ◌-◌, ◌≤◌, arith, length, take, drop}
use borrow.Rule.Slice.PartMut.{put_mid, Post-is, mid_len}
use Rattle.rows.specs.Rows.{Row}
use Rattle.machine.specs.Writes.{bytes_from}
use Rattle.writing.specs.Writing.{written_at, Wrote}

-- there are as many as the call's size says
pub bytes_length : (size address : ℕ) (r : Row) → length (bytes_from size address r) ≡ size
unfolding bytes_from
bytes_length zero address r = refl
bytes_length (suc size) address r = ap suc (bytes_length size (address + 1) r)

module _ (at size : ℕ) (out : List ℕ) (fits : at + size ≤ length out) where
  pub part_length : length (take (at + size - at) (drop at out)) ≡ size
  part_length = omega (arith, mid_len at (at + size) out fits)

  -- bytes says which are the first so many
  pub part_wrote : (bytes : ℕ → List ℕ) (back : List ℕ) → length back ≡ length (take (at + size - at) (drop at out))
      → back ≡ bytes (length (take (at + size - at) (drop at out)))
      → Wrote out at (bytes size) (at + size) (put_mid at (at + size - at) out back)
  unfolding written_at
  part_wrote bytes back l e =
      let same : back ≡ bytes size = e ∙ ap bytes part_length in
      let long : length (bytes size) ≡ size = ap length (sym same) ∙ l ∙ part_length in
      record {
        place = omega (arith, long);
        room = fits;
        bytes =
            ap (λ (rest : List ℕ). take at out ++ (back ++ rest)) (Post-is at (at + size) out (omega arith))
            ∙ simp (same, long, append_assoc);
      }
