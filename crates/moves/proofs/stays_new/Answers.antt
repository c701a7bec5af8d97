-- `moves::stays_new` meets its contract. Assumes nothing.
use Rattle.moves.proofs.Records as records
use Rattle.moves.proofs.stays_new.Goals as goal

pub returns-then-bytes-ne-MARKED : goal.returns-then-bytes-ne-MARKED
returns-then-bytes-ne-MARKED c = records.stays_unmarked _ c.if-bytes-ne-MARKED.true

pub returns : goal.returns
returns c = records.stays_marked _ c.if-bytes-ne-MARKED.false c.two_bytes.result c.two_bytes.ensures
