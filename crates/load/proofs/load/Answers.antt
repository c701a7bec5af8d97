-- `load::load` meets its contract. Assumes nothing.
use native.Mathlib.Omega.{arith}
use mathlib.Core.Path.{ap}
use Rattle.model.proofs.Numbers as numbers
use Rattle.model.specs.Machine.{State}
use Rattle.model.specs.Run.{reply}
use Rattle.model.specs.Run.Answer.{Loaded}
use Rattle.model.specs.Calls.{load_call}
use Rattle.refusals.proofs.Refusals.{some_number}
use Rattle.load.proofs.load.Goals as goal

pub returns-in-Err : goal.returns-in-Err
unfolding load_call
returns-in-Err c = numbers.refused _ _ _ (c.in-Err.ensures.number _) (some_number _)

pub returns : goal.returns
unfolding load_call
returns c = numbers.taken _ _ _ (c.in_default.ensures.number _) (omega arith) (ap (λ (s : State). reply Loaded 0 0 s) c.put_program.ensures)
