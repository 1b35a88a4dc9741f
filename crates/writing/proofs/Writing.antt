-- Laws of texts written at a place.
use Rattle.std.proofs.Common.{◌≡◌, sym, ap, ◌∙◌, List, [], ◌++◌, append_assoc, ℕ, ◌+◌, ◌-◌, ◌≤◌, zero-add, add_assoc, arith, length, take, drop, length-append, length-drop, length-take-le, take_at, drop_at, drop-drop, refl, append-nil, add-zero, take-append-drop}
use borrow.Rule.Slice.PartMut.{put_mid, Post-is}
use Rattle.writing.specs.Written.{written}
use Rattle.writing.specs.Writing.{written_at, Wrote}

-- a text after a text is one text
written_more : (o : List ℕ) (at : ℕ) (t u : List ℕ) → at + length t ≤ length o
    → written_at (written_at o at t) (at + length t) u ≡ written_at o at (t ++ u)
unfolding written_at
written_more o at t u h =
    let p : length (take at o ++ t) ≡ at + length t = simp (length-append, length-take-le at o (omega arith)) in
    let w : List ℕ = take at o ++ t ++ drop (at + length t) o in
    let front : take (at + length t) w ≡ take at o ++ t = take_at (take at o ++ t) (drop (at + length t) o) (at + length t) p in
    let back : drop (at + length t + length u) w ≡ drop (at + length t + length u) o =
    sym (drop-drop (length u) (at + length t) w)
    ∙ ap (drop (length u)) (drop_at (take at o ++ t) (drop (at + length t) o) (at + length t) p)
    ∙ drop-drop (length u) (at + length t) o in
    rw (front, back) (simp (length-append, append_assoc, add_assoc))

written_length : (o : List ℕ) (at : ℕ) (t : List ℕ) → at + length t ≤ length o → length (written_at o at t) ≡ length o
unfolding written_at
written_length o at t h =
    let e : length (written_at o at t) ≡ at + length t + (length o - (at + length t)) =
    simp (length-append, length-take-le at o (omega arith), length-drop) in
    omega (arith, e)

-- the same of what two writes did, one after the other
pub wrote_more : {o o₁ o₂ : List ℕ} {at m n : ℕ} {t u : List ℕ} → Wrote o at t m o₁ → Wrote o₁ m u n o₂ → Wrote o at (t ++ u) n o₂
wrote_more {o} {o₁} {o₂} {at} {m} {n} {t} {u} w v =
    let fits : at + length t ≤ length o = omega (arith, w.place, w.room) in
    let same : length o₁ ≡ length o = ap length w.bytes ∙ written_length o at t fits in
    record {
      place = omega (arith, length-append t u, w.place, v.place);
      room = omega (arith, v.room, same);
      bytes =
          v.bytes
          ∙ ap (λ (x : List ℕ). written_at x m u) w.bytes
          ∙ ap (λ (k : ℕ). written_at (written_at o at t) k u) w.place
          ∙ written_more o at t u fits;
    }

-- a text was copied over the part that it takes up
pub wrote_part : {o t part : List ℕ} {at : ℕ} → at + length t ≤ length o → part ≡ t
    → Wrote o at t (at + length t) (put_mid at (at + length t - at) o part)
unfolding written_at
wrote_part {o} {t} {part} {at} fits same =
    record {
      place = refl;
      room = fits;
      bytes = ap (λ (rest : List ℕ). take at o ++ (part ++ rest)) (Post-is at (at + length t) o (omega arith)) ∙ simp (same, append_assoc);
    }

-- nothing was written
pub wrote_none : (o : List ℕ) (at : ℕ) → at ≤ length o → Wrote o at [] at o
unfolding written_at
wrote_none o at h = record { place = omega arith; room = h; bytes = sym (rw (append-nil, add-zero) (take-append-drop at o)) }

-- a text at place 0 stands at the front
pub wrote_front : {o o' : List ℕ} {n : ℕ} {t : List ℕ} → Wrote o 0 t n o' → (n ≡ length t) × ((o' ≡ written t o) × (n ≤ length o))
unfolding written_at
wrote_front {o} {o'} {n} {t} w = (omega (arith, w.place), (w.bytes ∙ simp zero-add, w.room))
