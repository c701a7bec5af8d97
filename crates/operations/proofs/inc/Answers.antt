-- `operations::inc` meets its contract. Assumes nothing.
use Rattle.operations.proofs.Operands as took
use Rattle.operations.proofs.Operations as laws
use Rattle.model.specs.Instruction.Op.{INC}
use Rattle.std.proofs.Common.{arith}
use Rattle.operations.proofs.inc.Goals as goal

pub returns : goal.returns
unfolding laws.tables
returns c = laws.gave _ _ _ _ INC _ (took.one _ _ c.size_of-n.ensures.0 c.operands-x.ensures c.lower.ensures) (took.push_kept _ _ _ _ (omega arith) c.push.ensures)
