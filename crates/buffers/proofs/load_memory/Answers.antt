-- `buffers::load_memory` meets its contract. Assumes nothing.
use Rattle.model.specs.Calls.{load}
use Rattle.buffers.proofs.Parts as parts
use Rattle.buffers.proofs.load_memory.Goals as goal

pub returns : goal.returns
unfolding load
returns c =
    parts.filled-from 256 65280 c.args.memory.now c.args.program.now c.clear.new.bytes _ c.told-memory c.clear.ensures c.fill.ensures
