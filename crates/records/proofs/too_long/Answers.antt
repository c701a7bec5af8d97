-- `records::too_long` meets its contract. Assumes nothing.
use Rattle.model.specs.RecordMoves.{too_long}
use Rattle.records.proofs.too_long.Goals as goal

pub returns : goal.returns
unfolding too_long
returns c = rw c.from.ensures
