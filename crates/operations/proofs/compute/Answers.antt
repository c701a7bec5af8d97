-- `operations::compute` meets its contract. Assumes nothing.
use Rattle.operations.proofs.Operands as took
use Rattle.operations.proofs.Operations as laws
use Rattle.model.specs.Instruction.Op.{compute}
use Rattle.std.proofs.Common.{arith}
use Rattle.operations.proofs.compute.Goals as goal

pub returns : goal.returns
unfolding laws.tables
returns c = laws.gave _ _ _ _ (compute _) _ (took.two _ _ _ _ c.size_of-n.ensures.0 c.size_of-n.ensures.0 c.operands-x.ensures c.lower.ensures) (took.push_kept _ _ _ _ (omega (arith, c.computed.ensures)) c.push.ensures)
