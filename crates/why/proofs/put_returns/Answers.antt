-- `why::put_returns` meets its contract. Assumes nothing.
use Rattle.why.specs.Explained.{returns_with}
use Rattle.words.proofs.Joined.{pieces}
use Rattle.why.proofs.put_returns.Goals as goal

pub returns-clause-bytes : goal.returns-clause-bytes
unfolding returns_with
returns-clause-bytes g c = simp (pieces, c.put_with_number.ensures.bytes, c.put-2.ensures.bytes, c.stack_name.ensures.word, c.put.ensures.bytes, c.put_with_hex.ensures.bytes)
