-- `why::put_with_depths` meets its contract. Assumes nothing.
use Rattle.why.specs.Explained.{with_depths}
use Rattle.words.proofs.Joined.{pieces}
use Rattle.why.proofs.put_with_depths.Goals as goal

pub returns-clause-bytes : goal.returns-clause-bytes
unfolding with_depths
returns-clause-bytes g c = simp (pieces, c.put_in_routine.ensures.bytes, c.put_with_number-2.ensures.bytes, c.put_with_number.ensures.bytes)
