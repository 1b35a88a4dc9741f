-- Laws of texts that are put into an output.
use Rattle.std.proofs.Common.{List, ◌≡◌, [], ◌++◌, ℕ, ◌≤◌, length, refl, subst, ◌∙◌}
use Rattle.writing.specs.declared.Output.{Output}
use Rattle.writing.specs.Outputs.{Put}
use Rattle.writing.specs.Writing.{Wrote}
use Rattle.writing.specs.Written.{written}
use Rattle.writing.proofs.Writing.{wrote_more, wrote_none, wrote_front}

-- a text after a text is one text
pub put_more : {o p q : Output} {t u : List ℕ} → Put o t p → Put p u q → Put o (t ++ u) q
put_more a b = record { same_bytes = b.same_bytes ∙ a.same_bytes; wrote = wrote_more a.wrote b.wrote; len = b.len ∙ a.len }

-- nothing was put
pub put_none : (o : Output) → o.written ≤ length o.bytes.now → Put o [] o
put_none o h = record { same_bytes = refl; wrote = wrote_none o.bytes.now o.written h; len = refl }

-- a text by another name
pub put_as : {o p : Output} {t u : List ℕ} → t ≡ u → Put o t p → Put o u p
put_as e p = rw e at p

-- what was put into a new output stands at its front
pub put_front : {o p : Output} {out t : List ℕ} → o.bytes.now ≡ out → o.written ≡ 0 → Put o t p
    → (p.written ≡ length t) × ((p.bytes.now ≡ written t out) × (p.written ≤ length out))
put_front {o} {p} {out} {t} e z a =
    wrote_front (subst (λ (k : ℕ). Wrote out k t p.written p.bytes.now) z (subst (λ (l : List ℕ). Wrote l o.written t p.written p.bytes.now) e a.wrote))
