-- `records::broken` meets its contract. Assumes nothing.
use mathlib.Core.Path.{ap}
use mathlib.Core.Bool.{not}
use Rattle.model.specs.RecordMoves.{broken}
use Rattle.records.proofs.broken.Goals as goal

pub returns : goal.returns
unfolding broken
returns c = ap not c.well_formed-2.ensures
