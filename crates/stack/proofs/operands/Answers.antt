-- `stack::operands` meets its contract. Assumes nothing.
use Rattle.std.proofs.Common.{arith}
use Rattle.stack.proofs.Pops.{operands_are}
use Rattle.stack.proofs.operands.Goals as goal

pub returns : goal.returns
returns c = operands_are _ _ _ _ _ _ _ (omega arith) (omega arith) c.below.ensures c.below-2.ensures c.below-3.ensures
