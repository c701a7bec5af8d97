-- `machine::step` meets its contract. Assumes nothing.
use native.Mathlib.Omega.{arith}
use Rattle.model.proofs.Numbers as numbers
use Rattle.model.specs.Calls.{step_call}
use Rattle.refusals.proofs.Refusals.{some_number}
use Rattle.machine.proofs.Calls as calls
use Rattle.machine.proofs.step.Goals as goal

pub returns-in-Err : goal.returns-in-Err
unfolding step_call
returns-in-Err c = rw c.refused.ensures (numbers.refused _ _ _ (c.in-Err.ensures.number _) (some_number _))

pub returns : goal.returns
unfolding step_call
returns c =
    let lent = rw (c.sized-memory.ensures.value, c.sized-devices.ensures.value, c.sized-work.ensures.value, c.sized-ret.ensures.value) at c.run-end.ensures.0 in
    let wrote = rw (c.sized-memory.ensures.value, c.sized-work.ensures.value, c.sized-ret.ensures.value) at (c.ports-wrote.ensures c.args.devices.now) in
    numbers.taken _ _ _ (c.in_default.ensures.number _) (omega arith) (rw c.step_of.ensures (calls.step_is _ c.ports-wrote.result _ c.run-end.result wrote lent))
