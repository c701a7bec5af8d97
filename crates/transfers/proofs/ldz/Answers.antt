-- `transfers::ldz` meets its contract. Assumes nothing.
use Rattle.operations.proofs.Operands as took
use Rattle.operations.proofs.Operations as laws
use Rattle.std.proofs.Common.{[], refl}
use Rattle.model.specs.Instruction.Op.{LDZ}
use Rattle.transfers.proofs.ldz.Goals as goal

pub returns : goal.returns
unfolding laws.tables
returns c = laws.gave _ _ _ _ LDZ _ (took.one 1 1 refl c.operands-x.ensures c.lower.ensures) (took.push-one _ [] [] _ (rw c.load_zero_page.ensures at c.push.ensures))
