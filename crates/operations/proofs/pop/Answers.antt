-- `operations::pop` meets its contract. Assumes nothing.
use Rattle.operations.proofs.Operations as laws
use Rattle.model.specs.Instruction.Op.{POP}
use Rattle.operations.proofs.Operands as took
use Rattle.std.proofs.Common.{refl}
use Rattle.model.specs.Machine.{pushed}
use Rattle.operations.proofs.pop.Goals as goal

pub returns : goal.returns
unfolding pushed laws.tables
returns c = laws.gave _ _ _ _ POP _ (took.one _ _ c.size_of.ensures.0 refl c.lower.ensures) refl
