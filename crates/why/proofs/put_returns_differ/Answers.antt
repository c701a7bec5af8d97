-- `why::put_returns_differ` meets its contract. Assumes nothing.
use Rattle.why.specs.Explained.{returns_differ}
use Rattle.words.proofs.Joined.{pieces}
use Rattle.why.proofs.put_returns_differ.Goals as goal

pub returns-clause-bytes : goal.returns-clause-bytes
unfolding returns_differ
returns-clause-bytes g c = simp (pieces, c.put_with_number.ensures.bytes, c.put_with_hex.ensures.bytes, c.put_returns.ensures.bytes)
