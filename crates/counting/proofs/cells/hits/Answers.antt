use Rattle.std.proofs.Common.{◌≡◌, sym, ap, ◌∙◌, add-zero, arith}
use Rattle.laws.proofs.Sums.{sum_start, sum_more}
use Rattle.counting.proofs.Probes.{one_if, hits_occur}
use Rattle.counting.proofs.cells.hits.Goals as goal
use Rattle.counting.proofs.cells.hits.Goals.{then-hit, else-hit}

pub loop-b-init : goal.loop-b-init
loop-b-init c = record { so_far = sum_start _; few = omega arith }

pub loop-b-preserved : goal.loop-b-preserved
loop-b-preserved c =
    let more = c.loop-b.invariant.so_far in
    record {
      so_far =
          elim c.if-hit.branch [
            | then-hit w ↦ w.n-is ∙ sum_more _ _ _ _ more (sym (ap one_if (sym c.hit.ensures ∙ w.if-hit.true)))
            | else-hit w ↦ w.n-is ∙ sym (add-zero _) ∙ sum_more _ _ _ _ more (sym (ap one_if (sym c.hit.ensures ∙ w.if-hit.false)))
          ];
      few = elim c.if-hit.branch [ then-hit w ↦ omega arith | else-hit w ↦ omega arith ];
    }

pub returns-clause-value : goal.returns-clause-value
returns-clause-value c =
    let e : c.loop-b.b ≡ 8 = omega arith in
    rw e at c.loop-b.invariant.so_far ∙ hits_occur _ _ _ (omega (arith, c.ranges.byte.fits))
