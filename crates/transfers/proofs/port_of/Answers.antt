-- `transfers::port_of` meets its contract. Assumes nothing.
use Rattle.operations.proofs.Operations as laws
use Rattle.model.specs.Step.{effect_on}
use Rattle.std.proofs.Common.{ℕ, List, get_or, refl, ap}
use Rattle.operations.proofs.Operands as took
use Rattle.transfers.proofs.port_of.Goals as goal

pub returns : goal.returns
unfolding effect_on laws.tables
returns c = ap (λ (x : List ℕ). get_or x 1 0) (took.read_two _ _ _ 1 1 c.size_of.ensures.0 refl c.operands-x.ensures)
