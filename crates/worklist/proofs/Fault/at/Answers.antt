-- `worklist::Fault::at` meets its contract. Assumes nothing.
use mathlib.Core.Path.{refl}
use Rattle.worklist.specs.Worklist.{place_in}
use Rattle.worklist.proofs.Fault.at.Goals as goal

pub returns : goal.returns
unfolding place_in
returns c = rw (← c.self.view_is) refl
