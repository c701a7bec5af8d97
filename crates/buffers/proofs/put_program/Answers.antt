-- `buffers::put_program` meets its contract. Assumes nothing.
use Rattle.buffers.proofs.Loading as loading
use Rattle.buffers.proofs.put_program.Goals as goal

pub returns : goal.returns
returns c =
    let z = c.default.ensures in
    rw (z.1.0, z.1.1.0, z.1.1.1.0, z.1.1.1.1) (loading.load_is _ c.told-devices c.told-work c.told-ret c.load_memory.ensures c.clear.ensures c.clear-2.ensures c.clear-3.ensures)
