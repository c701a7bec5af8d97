-- `transfers::str` meets its contract. Assumes nothing.
use Rattle.operations.proofs.Operations as laws
use Rattle.model.specs.Instruction.Op.{STR}
use Rattle.operations.proofs.Operands as took
use Rattle.std.proofs.Common.{refl}
use Rattle.model.specs.Step.{written}
use Rattle.transfers.proofs.str.Goals as goal

pub returns : goal.returns
unfolding written laws.tables
returns c = laws.stored _ _ _ _ STR _ _ _ _ _ (took.read_two _ _ _ 1 1 c.size_of.ensures.0 refl c.operands-x.ensures) (rw c.relative.ensures at c.store.ensures)
