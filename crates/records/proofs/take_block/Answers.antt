-- `records::take_block` meets its contract. Assumes nothing.
use Rattle.records.proofs.Blocks as blocks
use Rattle.records.proofs.take_block.Goals as goal

pub returns-in-Ok : goal.returns-in-Ok
returns-in-Ok c =
    let h = blocks.block_written _ c.args.output.now c.requires c.args.direction c.move_block.result _ c.move_block.ensures _ _ c.in-Ok.is _ c.earlier_of.ensures in
    record { number_so_far = h.0; block_moved = h.1 }

pub returns-in-Err : goal.returns-in-Err
returns-in-Err c =
    let h = blocks.block_refused _ c.args.output.now c.requires c.args.direction c.move_block.result _ c.move_block.ensures _ _ c.in-Err.is _ (rw c.from.ensures at c.earlier_of-in-Err.ensures) in
    record { number_so_far = h.0; block_moved = h.1 }
