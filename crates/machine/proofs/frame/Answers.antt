-- `machine::frame` meets its contract. Assumes nothing.
use mathlib.Core.Path.{ap, ◌∙◌}
use native.Mathlib.Omega.{arith}
use Rattle.model.proofs.Numbers as numbers
use Rattle.model.specs.Run.{run}
use Rattle.model.specs.Calls.{frame_call}
use Rattle.refusals.proofs.Refusals.{some_number}
use Rattle.machine.proofs.Calls as calls
use Rattle.machine.proofs.frame.Goals as goal

pub returns-in-Err : goal.returns-in-Err
unfolding frame_call
returns-in-Err c = rw c.refused.ensures (numbers.refused _ _ _ (c.in-Err.ensures.number _) (some_number _))

pub returns : goal.returns
unfolding frame_call
returns c =
    let z = c.default.ensures in
    let placed = rw c.sized-memory.ensures.value at c.frame_memory.ensures in
    let cleared = rw c.sized-devices.ensures.value at c.clear_verdict.ensures in
    let lent = rw (c.sized-work.ensures.value, c.sized-ret.ensures.value, z.1.0, z.1.1.0, z.1.1.1.0, z.1.1.1.1) at c.run-end.ensures.0 in
    numbers.taken _ _ _ (c.in_default.ensures.number _) (omega arith)
    (rw c.frame_of.ensures (calls.frame_is _ _ _ _ c.run-end.result (λ m. c.verdict.ensures) (lent ∙ ap (run _ _) (calls.framed_is _ _ placed cleared))))
