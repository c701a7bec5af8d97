-- `worklist::Fault::other` meets its contract. Assumes nothing.
use mathlib.Core.Path.{refl}
use Rattle.worklist.specs.Worklist.{other_in}
use Rattle.worklist.proofs.Fault.other.Goals as goal

pub returns : goal.returns
unfolding other_in
returns c = rw (← c.self.view_is) refl
