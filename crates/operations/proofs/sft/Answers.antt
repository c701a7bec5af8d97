-- `operations::sft` meets its contract. Assumes nothing.
use Rattle.operations.proofs.Operands as took
use Rattle.operations.proofs.Operations as laws
use Rattle.std.proofs.Common.{refl, arith}
use Rattle.model.specs.Instruction.Op.{SFT}
use Rattle.operations.proofs.sft.Goals as goal

pub returns : goal.returns
unfolding laws.tables
returns c = laws.gave _ _ _ _ SFT _ (took.two _ _ 1 1 c.size_of-n.ensures.0 refl c.operands-x.ensures c.lower.ensures) (took.push_kept _ _ _ _ (omega (arith, c.shifted.ensures)) c.push.ensures)
