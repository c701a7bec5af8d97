-- `operations::rot` meets its contract. Assumes nothing.
use Rattle.operations.proofs.Operands as took
use Rattle.operations.proofs.Operations as laws
use Rattle.model.specs.Instruction.Op.{ROT}
use Rattle.operations.proofs.rot.Goals as goal

pub returns : goal.returns
unfolding laws.tables
returns c = laws.gave _ _ _ _ ROT _ (took.three _ _ c.size_of-n.ensures.0 c.operands-x.ensures c.lower.ensures) (took.push-three _ _ _ _ c.push-q.ensures c.push-r.ensures c.push.ensures)
