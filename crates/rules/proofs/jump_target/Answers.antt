-- `rules::jump_target` meets its contract. Assumes nothing.
use mathlib.Core.Path.{refl}
use Rattle.rules.proofs.Instructions.{target_is}
use Rattle.rules.proofs.jump_target.Goals as goal

pub returns : goal.returns
returns c = target_is c.args.program.now c.args.i _ _ c.requires.0 c.from_be_bytes-offset.ensures refl
