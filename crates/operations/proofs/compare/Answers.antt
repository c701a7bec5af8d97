-- `operations::compare` meets its contract. Assumes nothing.
use Rattle.operations.proofs.Operands as took
use Rattle.operations.proofs.Operations as laws
use Rattle.model.specs.Instruction.Op.{compare}
use Rattle.std.proofs.Common.{[]}
use Rattle.operations.proofs.compare.Goals as goal

pub returns : goal.returns
unfolding laws.tables
returns c = laws.gave _ _ _ _ (compare _) _ (took.two _ _ _ _ c.size_of-n.ensures.0 c.size_of-n.ensures.0 c.operands-x.ensures c.lower.ensures) (took.push-one _ [] [] _ (rw (c.flag.ensures, c.compared.ensures) at c.push_byte.ensures))
