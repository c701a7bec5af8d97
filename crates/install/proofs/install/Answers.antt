-- `install::install` meets its contract. Assumes nothing.
use native.Mathlib.Omega.{arith}
use mathlib.Core.Path.{sym}
use Rattle.model.proofs.Installs as installs
use Rattle.refusals.proofs.Refusals.{some_number}
use Rattle.install.proofs.Installing as installing
use Rattle.install.proofs.install.Goals as goal

pub returns-in-Err : goal.returns-in-Err
returns-in-Err c = installing.not_in _ _ _ (c.in-Err.ensures.number _) c.in-Err.ensures.sheet_left (some_number _)

pub put_program-requires : goal.put_program-requires
put_program-requires c = (installs.no_number _ _ _ (sym (c.in_default.ensures.number c.args.m))).room

pub returns : goal.returns
returns c = installing.goes_in _ _ _ (c.in_default.ensures.number _) c.in_default.ensures.sheet_left (omega arith) c.put_program.ensures
