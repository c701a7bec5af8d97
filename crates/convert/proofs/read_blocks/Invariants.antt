-- `convert::read_blocks` meets its contract. Assumes nothing.
use Rattle.std.proofs.Common.{◌≡◌, length}
use Rattle.convert.proofs.Passing as passing
use Rattle.convert.proofs.read_blocks.Given as goal

abbrev pub invariant-loop-turn : goal.invariant-loop-turn
invariant-loop-turn g l = (length l.block ≡ 65536) × (length l.output ≡ 131072) × passing.SoFar l.direction l.number
