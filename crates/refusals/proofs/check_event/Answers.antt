-- `refusals::check_event` meets its contract. Assumes nothing.
use Rattle.model.specs.Calls.{event_rows}
use Rattle.std.proofs.lemmas.Result.{err_from_is_err_and}
use Rattle.refusals.proofs.Refusals as laws
use Rattle.refusals.proofs.check_event.Goals as goal

pub returns-in_err-check_buffers-clause-number : goal.returns-in_err-check_buffers-clause-number
unfolding event_rows
returns-in_err-check_buffers-clause-number c m =
    let p = err_from_is_err_and c.from_residual.result c.from_residual.ensures.1 in
    rw (p.1, p.2) (laws.by_buffers _ _ _ (c.in_err-check_buffers.ensures.number m))

pub returns-then-device-gt-LAST_DEVICE-clause-number : goal.returns-then-device-gt-LAST_DEVICE-clause-number
returns-then-device-gt-LAST_DEVICE-clause-number c m = laws.device_above _ (c.in_ok-check_buffers.ensures.number m) _ c.if-device-gt-LAST_DEVICE.true

pub returns-clause-number : goal.returns-clause-number
returns-clause-number c m = laws.device_right _ (c.in_ok-check_buffers.ensures.number m) _ c.if-device-gt-LAST_DEVICE.false
