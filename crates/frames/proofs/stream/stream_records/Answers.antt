-- `frames::stream::stream_records` meets its contract. Assumes nothing.
use native.Mathlib.Omega.{arith}
use borrow.Author.Rules.{rules}
use Rattle.frames.proofs.Coming as coming
use Rattle.frames.proofs.stream.stream_records.Goals as goal

pub loop-turn-init : goal.loop-turn-init
loop-turn-init g c = (search rules, search rules, search rules, search rules, search rules, omega arith, coming.from_nothing _)

pub returns-then-not-turn : goal.returns-then-not-turn
returns-then-not-turn g c = let r = coming.so_far_on _ _ _ _ c.loop-turn.invariant.6 c.read_some-turn.ensures.came in (r.0, r.1)

pub loop-turn-preserved : goal.loop-turn-preserved
loop-turn-preserved g c = (search rules, search rules, search rules, search rules, search rules, c.read_some-turn.ensures.part_waits, coming.so_far_on _ _ _ _ c.loop-turn.invariant.6 c.read_some-turn.ensures.came)
