-- `blocks::work_off` meets its contract. Assumes nothing.
use Prim.Native.Nat.{◌%◌}
use native.Mathlib.Omega.{arith}
use Rattle.model.specs.Calls.{frame_size}
use Rattle.blocks.proofs.Blocks as blocks
use Rattle.blocks.proofs.work_off.Goals as goal

pub returns-clause-block_after : goal.returns-clause-block_after
returns-clause-block_after g c =
    blocks.worked c.args.n (c.args.n % frame_size) c.args.block.now _ _ _ _ _ (omega arith) (omega arith) c.copy_within.ensures.after
    c.frames-machine.ensures.machine_left c.frames-machine.ensures.lines_put
