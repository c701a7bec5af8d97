-- `alu::product` meets its contract. A turn leaves sum + term * rest as it is, modulo 65,536: the product before the first turn, the sum alone
-- after the last. The measure is the turns that are left. The rest is at most a and at most b, so by `turns_most` there are at most as many turns
-- as the shorter of the two has bits. Assumes nothing.
use Rattle.std.proofs.Common.{◌≡◌, ◌+◌, ◌*◌, ◌%◌, ◌<◌, ◌≤◌}
use Rattle.alu.proofs.Laws as laws
use Rattle.alu.proofs.product.Given as goal

abbrev pub invariant-loop-rest : goal.invariant-loop-rest
invariant-loop-rest l = ((l.sum + l.term * l.rest) % 65536 ≡ l.a * l.b % 65536) × (l.sum < 65536) × (l.rest ≤ l.a) × (l.rest ≤ l.b)

abbrev pub decreases-loop-rest : goal.decreases-loop-rest
decreases-loop-rest l = laws.turns 16 l.rest
