-- `alu::product` meets its contract. A turn leaves sum + term * rest as it is, modulo 65,536: the product before the first turn, the sum alone
-- after the last. The measure is the turns that are left. The rest is at most a and at most b, so by `turns_most` there are at most as many turns
-- as the shorter of the two has bits. Assumes nothing.
use Rattle.std.proofs.Common.{◌∙◌, mul_comm, arith, rules}
use Rattle.alu.proofs.Laws as laws
use Rattle.alu.proofs.product.Goals as goal
use Rattle.alu.proofs.product.Goals.{then-a-b, else-a-b, then-rest-eq1, else-rest-eq1}

pub loop-rest-init : goal.loop-rest-init
loop-rest-init c =
    elim c.if-a-b.branch [
      | then-a-b w ↦ (rw w.term-is (rw w.rest-is (omega (arith, mul_comm c.args.a c.args.b))), search rules, omega arith, omega arith)
      | else-a-b w ↦ (rw w.term-is (rw w.rest-is (search rules)), search rules, omega arith, omega arith)
    ]

pub loop-rest-smaller : goal.loop-rest-smaller
loop-rest-smaller c = laws.turns_fewer 16 _ (search rules) (search rules)

pub loop-rest-preserved : goal.loop-rest-preserved
loop-rest-preserved c =
    elim c.if-rest-eq1.branch [
      | then-rest-eq1 w ↦ (laws.turn 65536 _ _ _ _ (rw w.if-rest-eq1.true (omega arith)) ∙ c.loop-rest.invariant.0, omega arith, search rules, search rules)
      | else-rest-eq1 w ↦ (laws.turn 65536 _ _ _ _ (rw (laws.even _ w.if-rest-eq1.false) (omega arith)) ∙ c.loop-rest.invariant.0, omega arith, search rules, search rules)
    ]
