-- `moves::put_narrowed` meets its contract. Assumes nothing.
use Rattle.moves.proofs.Records as records
use Rattle.moves.proofs.put_narrowed.Goals as goal

pub returns : goal.returns
returns c = records.four_put c.args.bytes.now c.args.part.now _ c.requires.0 c.requires.1 c.place.ensures
