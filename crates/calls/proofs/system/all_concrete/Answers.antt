use Rattle.std.proofs.Common.{◌∙◌}
use Rattle.calls.proofs.Concrete.{one_missing, one_passed, all_passed, from_first}
use Rattle.calls.proofs.system.all_concrete.Goals as goal

pub returns-in-Uninitialized : goal.returns-in-Uninitialized
returns-in-Uninitialized c =
    one_missing _ _ _ _ _ c.loop-k-test.true c.read_memory.ensures c.in-Uninitialized.is ∙ c.loop-k.invariant ∙ from_first _ _ _

pub loop-k-preserved : goal.loop-k-preserved
loop-k-preserved c =
    one_passed _ _ _ _ _ _ c.loop-k-test.true c.read_memory.ensures c.in-Concrete.is ∙ c.loop-k.invariant

pub returns : goal.returns
returns c = all_passed _ _ _ _ c.loop-k-test.false ∙ c.loop-k.invariant ∙ from_first _ _ _
