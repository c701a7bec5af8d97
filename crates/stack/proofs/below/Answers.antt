-- `stack::below` meets its contract. Assumes nothing.
use Rattle.std.proofs.Common.{arith}
use Rattle.stack.proofs.Pops.{none_below, some_below}
use Rattle.stack.proofs.below.Goals as goal

pub returns-then-n-eq0 : goal.returns-then-n-eq0
returns-then-n-eq0 c = none_below _ _ c.if-n-eq0.true

pub returns : goal.returns
returns c = some_below _ _ _ _ c.if-n-eq0.false (omega arith) (omega arith) c.read_in.ensures
