use Rattle.std.proofs.Common.{arith}
use Rattle.tables.proofs.Clearing.{block_passed, block_written}
use Rattle.tables.proofs.clear.clear_table.Goals as goal

pub loop-from-preserved-then-not-are_zero : goal.loop-from-preserved-then-not-are_zero
loop-from-preserved-then-not-are_zero c = block_written c.loop-from.invariant _ (omega arith) (omega arith) (c.fill.ensures.after (λ y e. e))

pub loop-from-preserved : goal.loop-from-preserved
loop-from-preserved c = block_passed c.loop-from.invariant _ (omega arith) (omega arith) (c.are_zero.ensures c.if-not-are_zero.false)
