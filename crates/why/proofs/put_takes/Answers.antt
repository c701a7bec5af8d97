-- `why::put_takes` meets its contract. Assumes nothing.
use Rattle.why.specs.Explained.{takes}
use Rattle.words.proofs.Joined.{pieces}
use Rattle.why.proofs.put_takes.Goals as goal

pub returns-clause-bytes : goal.returns-clause-bytes
unfolding takes
returns-clause-bytes g c = simp (pieces, c.put_with_number.ensures.bytes, c.put-2.ensures.bytes, c.stack_name.ensures.word, c.put.ensures.bytes, c.put_with_count.ensures.bytes)
