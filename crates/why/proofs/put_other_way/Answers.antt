-- `why::put_other_way` meets its contract. Assumes nothing.
use Rattle.why.specs.Explained.{other_way}
use Rattle.words.proofs.Joined.{pieces}
use Rattle.why.proofs.put_other_way.Goals as goal

pub returns-clause-bytes : goal.returns-clause-bytes
unfolding other_way
returns-clause-bytes g c = simp (pieces, c.put_in_routine.ensures.bytes, c.put_with_number-2.ensures.bytes, c.put_with_number.ensures.bytes)
