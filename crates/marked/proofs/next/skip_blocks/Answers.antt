use Rattle.std.proofs.Common.{arith}
use Rattle.marked.proofs.Passing.{passed_both, block_passed}
use Rattle.marked.proofs.next.skip_blocks.Goals as goal

pub loop-i-preserved : goal.loop-i-preserved
loop-i-preserved c =
    passed_both c.loop-i.invariant (block_passed (omega arith) (omega arith) (omega arith) (c.are_unmarked.ensures c.if-are_unmarked.true))
