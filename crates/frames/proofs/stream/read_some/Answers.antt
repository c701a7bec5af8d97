-- `frames::stream::read_some` meets its contract. Assumes nothing.
use native.Mathlib.Omega.{arith}
use Rattle.input.proofs.Done.{was_done}
use Rattle.frames.proofs.Coming as coming
use Rattle.frames.proofs.stream.read_some.Goals as goal

pub returns-in_default-clause-came : goal.returns-in_default-clause-came
returns-in_default-clause-came g c = rw c.clear.ensures (coming.nothing_came c.args.waited c.args.block.now _ _ (omega arith) (omega arith) c.read_more.ensures.1)

pub returns-then-n-waited-clause-came : goal.returns-then-n-waited-clause-came
returns-then-n-waited-clause-came g c = rw c.clear.ensures (coming.nothing_came c.args.waited c.args.block.now _ _ (omega arith) (omega arith) c.read_more.ensures.1)

pub returns-clause-came : goal.returns-clause-came
returns-clause-came g c =
    let filled = rw (was_done _ _ c.in-Some.ensures) at c.read_more.ensures in
    coming.came _ _ c.args.block.now _ _ _ filled.0.0 filled.1 (rw c.clear.ensures at c.work_off-worked.ensures.block_after)
