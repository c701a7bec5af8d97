-- `transfers::jci` meets its contract. Assumes nothing.
use Rattle.operations.proofs.Operations as laws
use Rattle.model.specs.Instruction.Op.{JCI}
use Rattle.operations.proofs.Operands as took
use Rattle.std.proofs.Common.{false, refl}
use Rattle.transfers.proofs.jci.Goals as goal

pub returns-then-x-eq0 : goal.returns-then-x-eq0
unfolding laws.tables
returns-then-x-eq0 c = laws.jumped _ _ _ _ JCI false _ _ _ (took.read_one _ 1 1 refl c.operands-x.ensures) (laws.stays _ _ _ c.if-x-eq0.true refl)

pub returns-else-x-eq0 : goal.returns-else-x-eq0
unfolding laws.tables
returns-else-x-eq0 c = laws.jumped _ _ _ _ JCI false _ _ _ (took.read_one _ 1 1 refl c.operands-x.ensures) (laws.jumps _ _ _ c.if-x-eq0.false c.offset.ensures)
