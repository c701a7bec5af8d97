-- `refusals::check_load` meets its contract. Assumes nothing.
use native.Mathlib.Omega.{arith}
use Rattle.model.specs.Calls.{load_rows}
use Rattle.std.proofs.lemmas.Result.{err_from_is_err_and}
use Rattle.refusals.proofs.Refusals as laws
use Rattle.refusals.proofs.check_load.Goals as goal

pub returns-in_err-check_buffers-clause-number : goal.returns-in_err-check_buffers-clause-number
unfolding load_rows
returns-in_err-check_buffers-clause-number c m =
    let p = err_from_is_err_and c.from_residual.result c.from_residual.ensures.1 in
    rw (p.1, p.2) (laws.by_buffers _ _ _ (c.in_err-check_buffers.ensures.number m))

pub returns-then-program-eq0-clause-number : goal.returns-then-program-eq0-clause-number
returns-then-program-eq0-clause-number c m = laws.program-empty _ (c.in_ok-check_buffers.ensures.number m) _ (omega arith)

pub returns-then-program-gt-LOAD_MOST-clause-number : goal.returns-then-program-gt-LOAD_MOST-clause-number
returns-then-program-gt-LOAD_MOST-clause-number c m = laws.program-long _ (c.in_ok-check_buffers.ensures.number m) _ (λ z. omega arith) c.if-program-gt-LOAD_MOST.true

pub returns-clause-number : goal.returns-clause-number
returns-clause-number c m = laws.program_right _ (c.in_ok-check_buffers.ensures.number m) _ (λ z. omega arith) c.if-program-gt-LOAD_MOST.false
