-- `transfers::dei` meets its contract. Assumes nothing.
use Rattle.operations.proofs.Operands as took
use Rattle.operations.proofs.Operations as laws
use Rattle.std.proofs.Common.{[], refl}
use Rattle.model.specs.Instruction.Op.{DEI}
use Rattle.transfers.proofs.dei.Goals as goal

pub returns : goal.returns
unfolding laws.tables
returns c = laws.gave _ _ _ _ DEI _ (took.one 1 1 refl c.operands-x.ensures c.lower.ensures) (took.push-one _ [] [] _ (rw c.input.ensures at c.push.ensures))
