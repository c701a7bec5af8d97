-- `why::put_leaves` meets its contract. Assumes nothing.
use Rattle.why.specs.Explained.{leaves}
use Rattle.words.proofs.Joined.{pieces}
use Rattle.why.proofs.put_leaves.Goals as goal

pub returns-clause-bytes : goal.returns-clause-bytes
unfolding leaves
returns-clause-bytes g c = simp (pieces, c.put-3.ensures.bytes, c.put-2.ensures.bytes, c.stack_name.ensures.word, c.put.ensures.bytes, c.put_with_count.ensures.bytes)
