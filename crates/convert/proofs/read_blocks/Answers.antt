-- `convert::read_blocks` meets its contract. Assumes nothing.
use Rattle.std.proofs.Common.{rules}
use Rattle.convert.proofs.Passing as passing
use Rattle.convert.proofs.read_blocks.Goals as goal

pub loop-turn-init : goal.loop-turn-init
loop-turn-init g c = (search rules, search rules, passing.from_nothing _)

pub returns-then-number-ne0 : goal.returns-then-number-ne0
returns-then-number-ne0 g c = passing.came _ _ _ _ c.loop-turn.invariant.2 c.take_block-taken.ensures.number_so_far

pub returns-then-n-block : goal.returns-then-n-block
returns-then-n-block g c = passing.came _ _ _ _ c.loop-turn.invariant.2 c.take_block-taken.ensures.number_so_far

pub loop-turn-preserved : goal.loop-turn-preserved
loop-turn-preserved g c =
    (search rules, search rules, passing.came_full _ _ _ _ c.loop-turn.invariant.2 c.take_block-taken.ensures.number_so_far (search rules))
