-- `buffers::frame_memory` meets its contract. Assumes nothing.
use Rattle.buffers.proofs.Parts as parts
use Rattle.buffers.proofs.frame_memory.Goals as goal

pub returns : goal.returns
returns c =
    parts.placed-from 128 65408 c.args.memory.now c.args.frame.now _ c.told-memory c.place.ensures
