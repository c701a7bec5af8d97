-- `transfers::lda` meets its contract. Assumes nothing.
use Rattle.operations.proofs.Operands as took
use Rattle.operations.proofs.Operations as laws
use Rattle.std.proofs.Common.{[], refl}
use Rattle.model.specs.Instruction.Op.{LDA}
use Rattle.transfers.proofs.lda.Goals as goal

pub returns : goal.returns
unfolding laws.tables
returns c = laws.gave _ _ _ _ LDA _ (took.one 2 2 refl c.operands-x.ensures c.lower.ensures) (took.push-one _ [] [] _ (rw c.load.ensures at c.push.ensures))
