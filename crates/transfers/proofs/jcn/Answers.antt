-- `transfers::jcn` meets its contract. Assumes nothing.
use Rattle.operations.proofs.Operations as laws
use Rattle.model.specs.Instruction.Op.{JCN}
use Rattle.operations.proofs.Operands as took
use Rattle.std.proofs.Common.{refl}
use Rattle.transfers.proofs.jcn.Goals as goal

pub returns-then-x-eq0 : goal.returns-then-x-eq0
unfolding laws.tables
returns-then-x-eq0 c = laws.jumped _ _ _ _ JCN _ _ _ _ (took.read_two _ 1 1 _ _ refl c.size_of.ensures.0 c.operands-x.ensures) (laws.stays _ _ _ c.if-x-eq0.true refl)

pub returns-else-x-eq0 : goal.returns-else-x-eq0
unfolding laws.tables
returns-else-x-eq0 c = laws.jumped _ _ _ _ JCN _ _ _ _ (took.read_two _ 1 1 _ _ refl c.size_of.ensures.0 c.operands-x.ensures) (laws.jumps _ _ _ c.if-x-eq0.false c.address.ensures)
