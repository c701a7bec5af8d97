-- `refusals::check_frame` meets its contract. Assumes nothing.
use mathlib.Core.Path.{sym, ◌∙◌}
use Rattle.model.specs.Calls.{frame_rows}
use Rattle.std.proofs.lemmas.Result.{err_from_is_err_and}
use Rattle.refusals.proofs.Refusals as laws
use Rattle.refusals.proofs.check_frame.Goals as goal

pub returns-in_err-check_buffers-clause-number : goal.returns-in_err-check_buffers-clause-number
unfolding frame_rows
returns-in_err-check_buffers-clause-number c m =
    let p = err_from_is_err_and c.from_residual.result c.from_residual.ensures.1 in
    rw (p.1, p.2) (laws.by_buffers _ _ _ (c.in_err-check_buffers.ensures.number m))

pub returns-then-frame-ne-FRAME_SIZE-clause-number : goal.returns-then-frame-ne-FRAME_SIZE-clause-number
returns-then-frame-ne-FRAME_SIZE-clause-number c m = laws.frame-length _ (c.in_ok-check_buffers.ensures.number m) _ c.if-frame-ne-FRAME_SIZE.true

pub returns-then-well_formed-clause-number : goal.returns-then-well_formed-clause-number
returns-then-well_formed-clause-number c m = laws.frame_right _ (c.in_ok-check_buffers.ensures.number m) _ c.if-frame-ne-FRAME_SIZE.false (sym c.well_formed-2.ensures ∙ c.if-well_formed.true)

pub returns-else-well_formed-clause-number : goal.returns-else-well_formed-clause-number
returns-else-well_formed-clause-number c m = laws.frame_wrong _ (c.in_ok-check_buffers.ensures.number m) _ c.if-frame-ne-FRAME_SIZE.false (sym c.well_formed-2.ensures ∙ c.if-well_formed.false)
