-- `transfers::stz` meets its contract. Assumes nothing.
use Rattle.operations.proofs.Operations as laws
use Rattle.model.specs.Instruction.Op.{STZ}
use Rattle.operations.proofs.Operands as took
use Rattle.std.proofs.Common.{refl}
use Rattle.model.specs.Step.{written}
use Rattle.transfers.proofs.stz.Goals as goal

pub returns : goal.returns
unfolding written laws.tables
returns c = laws.stored _ _ _ _ STZ _ _ _ _ _ (took.read_two _ _ _ 1 1 c.size_of.ensures.0 refl c.operands-x.ensures) c.store_zero_page.ensures
