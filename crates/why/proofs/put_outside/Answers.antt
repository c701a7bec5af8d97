-- `why::put_outside` meets its contract. Assumes nothing.
use Rattle.why.specs.Explained.{goes_outside}
use Rattle.words.proofs.Joined.{pieces}
use Rattle.why.proofs.put_outside.Goals as goal

pub returns-clause-bytes : goal.returns-clause-bytes
unfolding goes_outside
returns-clause-bytes g c = simp (pieces, c.put_with_hex-2.ensures.bytes, c.put_with_hex.ensures.bytes)
