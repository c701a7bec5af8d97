-- `stack::lower` meets its contract. Assumes nothing.
use Rattle.std.proofs.Common.{arith}
use Rattle.stack.proofs.Pops.{kept, lower_is}
use Rattle.stack.proofs.lower.Goals as goal

pub returns-then-keep : goal.returns-then-keep
returns-then-keep c = kept _ _ c.if-keep.true

pub returns-else-keep : goal.returns-else-keep
returns-else-keep c = lower_is _ _ c.if-keep.false (omega arith) (omega arith)
