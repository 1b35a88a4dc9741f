use Rattle.std.proofs.Common.{rules, ◌∙◌}
use Rattle.rows.specs.Lent.{lent}
use Rattle.loader.specs.Loading.{loaded}
use Rattle.loader.proofs.Segments.{load_on, load_all, load_none}
use Rattle.loader.proofs.load_segment.Goals as goal

pub loop-k-preserved : goal.loop-k-preserved
loop-k-preserved c = record {
  same_slices = search rules;
  left = load_on _ _ _ _ (lent c.loop-k.row) _ _ c.loop-k-test.true c.word_at.ensures c.write_memory.ensures.row_after ∙ c.loop-k.invariant.left;
}

pub returns-clause-row_after : goal.returns-clause-row_after
unfolding loaded
returns-clause-row_after c = load_all _ _ _ _ _ c.loop-k-test.false ∙ c.loop-k.invariant.left ∙ load_none _ _ _ _
