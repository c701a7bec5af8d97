-- `why::put_ways_differ` meets its contract. Assumes nothing.
use Rattle.why.specs.Explained.{ways_differ}
use Rattle.words.proofs.Joined.{pieces}
use Rattle.why.proofs.put_ways_differ.Goals as goal

pub returns-clause-bytes : goal.returns-clause-bytes
unfolding ways_differ
returns-clause-bytes g c = simp (pieces, c.put_other_way.ensures.bytes, c.put_with_depths.ensures.bytes, c.put_with_hex.ensures.bytes)
