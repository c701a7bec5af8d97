-- `machine::event` meets its contract. Assumes nothing.
use mathlib.Core.Path.{◌∙◌}
use native.Mathlib.Omega.{arith}
use Rattle.model.proofs.Numbers as numbers
use Rattle.model.specs.Calls.{event_call}
use Rattle.refusals.proofs.Refusals.{some_number}
use Rattle.machine.proofs.Calls as calls
use Rattle.machine.proofs.event.Goals as goal

pub returns-in-Err : goal.returns-in-Err
unfolding event_call
returns-in-Err c = rw c.refused.ensures (numbers.refused _ _ _ (c.in-Err.ensures.number _) (some_number _))

pub returns-then-vector-eq0 : goal.returns-then-vector-eq0
unfolding event_call
returns-then-vector-eq0 c =
    let read = rw c.sized-devices.ensures.value at c.input-vector.ensures in
    rw c.sized-devices.ensures.value
    (numbers.taken _ _ _ (c.in_default.ensures.number _) (omega arith) (calls.ignored _ _ _ _ (calls.vector_is _ _ (omega arith) read) (omega arith)))

pub returns : goal.returns
unfolding event_call
returns c =
    let read = rw c.sized-devices.ensures.value at c.input-vector.ensures in
    let lent = rw (c.sized-memory.ensures.value, c.sized-devices.ensures.value, c.sized-work.ensures.value, c.sized-ret.ensures.value) at c.run-end.ensures.0 in
    numbers.taken _ _ _ (c.in_default.ensures.number _) (omega arith)
    (calls.runs_from _ _ _ _ (calls.vector_is _ _ (omega arith) read) (λ z. omega arith) (rw c.run_of.ensures (calls.run_is _ _ c.run-end.result ∙ lent)))
