-- `operations::swp` meets its contract. Assumes nothing.
use Rattle.operations.proofs.Operands as took
use Rattle.operations.proofs.Operations as laws
use Rattle.model.specs.Instruction.Op.{SWP}
use Rattle.std.proofs.Common.{[]}
use Rattle.operations.proofs.swp.Goals as goal

pub returns : goal.returns
unfolding laws.tables
returns c = laws.gave _ _ _ _ SWP _ (took.two _ _ _ _ c.size_of-n.ensures.0 c.size_of-n.ensures.0 c.operands-x.ensures c.lower.ensures) (took.push_two _ _ [] _ c.push-q.ensures c.push.ensures)
