-- `admission::admit` meets its contract. Assumes nothing.
use mathlib.Core.Path.{sym}
use native.Mathlib.Omega.{arith}
use borrow.Author.Rules.{rules}
use Rattle.model.proofs.Exactness.{exact}
use Rattle.admission.proofs.Calls as calls
use Rattle.admission.proofs.admit.Goals as goal

pub returns-then-is_empty : goal.returns-then-is_empty
returns-then-is_empty c = sym (exact.empty _ _ (search rules))

pub returns-then-program-gt-ADMIT_MOST : goal.returns-then-program-gt-ADMIT_MOST
returns-then-program-gt-ADMIT_MOST c = sym (exact.long _ _ c.if-program-gt-ADMIT_MOST.true)

pub returns-then-sheet-program : goal.returns-then-sheet-program
returns-then-sheet-program c = sym (exact.unfit _ _ (search rules) c.if-program-gt-ADMIT_MOST.false c.if-sheet-program.true)

pub returns-in-Err : goal.returns-in-Err
returns-in-Err c = calls.refused_11 _ _ (search rules) c.if-program-gt-ADMIT_MOST.false c.if-sheet-program.false _ _ _ c.in-Err.ensures (omega arith) c.clear.ensures

pub returns-in-Ok : goal.returns-in-Ok
returns-in-Ok c = calls.admitted_is _ _ (search rules) c.if-program-gt-ADMIT_MOST.false c.if-sheet-program.false _ c.in-Ok.ensures
