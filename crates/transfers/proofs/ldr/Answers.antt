-- `transfers::ldr` meets its contract. Assumes nothing.
use Rattle.operations.proofs.Operands as took
use Rattle.operations.proofs.Operations as laws
use Rattle.std.proofs.Common.{[], refl}
use Rattle.model.specs.Instruction.Op.{LDR}
use Rattle.transfers.proofs.ldr.Goals as goal

pub returns : goal.returns
unfolding laws.tables
returns c = laws.gave _ _ _ _ LDR _ (took.one 1 1 refl c.operands-x.ensures c.lower.ensures) (took.push-one _ [] [] _ (rw (c.load.ensures, c.relative.ensures) at c.push.ensures))
