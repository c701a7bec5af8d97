-- `admission::explain` meets its contract. Assumes nothing.
use native.Mathlib.Omega.{arith}
use Rattle.admission.proofs.Calls as calls
use Rattle.admission.proofs.explain.Goals as goal

pub returns-in-0 : goal.returns-in-0
returns-in-0 c = calls.says_5 _ c.in-0.is

pub returns-in_default : goal.returns-in_default
returns-in_default c = calls.says_9 _ (omega arith)
