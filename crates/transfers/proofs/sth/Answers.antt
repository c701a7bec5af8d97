-- `transfers::sth` meets its contract. Assumes nothing.
use Rattle.operations.proofs.Operations as laws
use Rattle.model.specs.Instruction.Op.{STH}
use Rattle.operations.proofs.Operands as took
use Rattle.std.proofs.Common.{[]}
use Rattle.model.specs.Step.{other_after}
use Rattle.transfers.proofs.sth.Goals as goal

pub returns : goal.returns
unfolding other_after laws.tables
returns c = laws.passed _ _ _ _ STH _ _ _ _ _ (took.read_one _ _ _ c.size_of.ensures.0 c.operands-x.ensures) (took.push-one _ [] [] _ c.push.ensures)
