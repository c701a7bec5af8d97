-- `transfers::jmp` meets its contract. Assumes nothing.
use Rattle.operations.proofs.Operations as laws
use Rattle.model.specs.Instruction.Op.{JMP}
use Rattle.operations.proofs.Operands as took
use Rattle.transfers.proofs.jmp.Goals as goal

pub returns : goal.returns
unfolding laws.tables
returns c = laws.jumped _ _ _ _ JMP _ _ _ _ (took.read_one _ _ _ c.size_of.ensures.0 c.operands-x.ensures) c.address.ensures
