-- `admission::unmark` meets its contract. The loop's invariant: the first i records are those of a sheet without marks, the
-- others are zero. Assumes nothing.
use Rattle.admission.proofs.Blank.{next_blanked, all_blanked}
use Rattle.admission.proofs.unmark.Goals as goal

pub loop-i-preserved : goal.loop-i-preserved
loop-i-preserved c = next_blanked _ _ _ c.loop-i-test.true c.loop-i.invariant

pub returns : goal.returns
returns c = all_blanked _ _ _ c.loop-i-test.false c.loop-i.invariant
