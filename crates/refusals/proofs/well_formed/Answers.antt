-- `refusals::well_formed` meets its contract. Assumes nothing.
use Prim.Native.Nat.{◌+◌}
use Rattle.refusals.proofs.Frames as frames
use Rattle.refusals.proofs.well_formed.Goals as goal

pub returns-then-most-n : goal.returns-then-most-n
returns-then-most-n c = frames.too_long_lem _ _ c.from-n.result c.from-n.ensures c.if-most-n.true

pub loop-byte-preserved : goal.loop-byte-preserved
loop-byte-preserved c = frames.zero_so_far _ _ _ c.loop-byte-test.true c.loop-byte.invariant

pub returns : goal.returns
returns c =
    frames.all_seen _ _ _ c.from-n.result c.loop-byte.byte-index c.loop-byte.seen c.from-n.ensures c.if-most-n.false
    (frames.tail_is (2 + c.from-n.result) c.args.frame.now) c.loop-byte-test.false c.loop-byte.invariant
