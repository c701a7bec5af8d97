-- `transfers::sta` meets its contract. Assumes nothing.
use Rattle.operations.proofs.Operations as laws
use Rattle.model.specs.Instruction.Op.{STA}
use Rattle.operations.proofs.Operands as took
use Rattle.std.proofs.Common.{refl}
use Rattle.model.specs.Step.{written}
use Rattle.transfers.proofs.sta.Goals as goal

pub returns : goal.returns
unfolding written laws.tables
returns c = laws.stored _ _ _ _ STA _ _ _ _ _ (took.read_two _ _ _ 2 2 c.size_of.ensures.0 refl c.operands-x.ensures) c.store.ensures
