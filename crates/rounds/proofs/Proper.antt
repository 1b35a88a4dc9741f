-- The rows that a search has: each of the lengths of its store, with register 0 marked, so that none is a zero row.
use Rattle.std.proofs.Common.{◌≡◌, ap, ◌∙◌, arith, length, get_or}
use Rattle.std.proofs.Math.ListN.{get_or-replicate}
use Rattle.rows.specs.Rows.{Row}
use Rattle.store.specs.Store.{Sized, zero_row}
use Rattle.store.specs.declared.layout.Layout.{Layout}

pub record Proper (s : Layout) (r : Row) : Type 0 where
  pub words : length r.words ≡ s.words
  pub marks : length r.marks ≡ s.marks
  pub zero_mark : get_or r.marks 0 0 ≡ 1

pub not_zero : {s : Layout} {r : Row} → Sized s → Proper s r → r ≡ zero_row s → ⊥
not_zero {s} {r} sized h e =
    let zero = ap (λ (q : Row). get_or q.marks 0 0) e ∙ get_or-replicate s.marks 0 0 0 (omega (arith, sized.registers)) in
    omega (arith, h.zero_mark)
