-- `moves::put_widened` meets its contract. Assumes nothing.
use Rattle.moves.proofs.Records as records
use Rattle.moves.proofs.put_widened.Goals as goal

pub returns : goal.returns
returns c = records.put_is c.args.bytes.now c.args.part.now _ _ c.routine_high.result c.requires.0 c.requires.1 c.place.ensures c.routine_high.ensures c.place-2.ensures
