-- `worklist::Worklist::release` meets its contract. The loop's invariant: the calls from place j on go on after themselves, and there is a
-- call at place j - 1. Each turn leads to an earlier one. Assumes nothing.
use mathlib.Core.Path.{◌∙◌}
use native.Mathlib.Omega.{arith}
use Rattle.worklist.proofs.Returns as returning
use Rattle.worklist.proofs.Worklist.release.Goals as goal

pub place-i-requires : goal.place-i-requires
place-i-requires c = returning.turn_low _ _ _ c.requires.0 _ _ _ _ _ c.requires.1 c.requires.2 _ _ _ (c.loop-j.invariant.1, c.loop-j.invariant.2) c.loop-j-test.true

pub come_back-requires : goal.come_back-requires
come_back-requires c = rw c.loop-j.invariant.0.1 (returning.turn_asks _ _ _ c.requires.0 _ _ _ _ _ c.requires.1 c.requires.2 _ _ _ (c.loop-j.invariant.1, c.loop-j.invariant.2) c.loop-j-test.true _ c.place-i.ensures)

pub bounds-routines-k : goal.bounds-routines-k
bounds-routines-k c = omega (arith, returning.turn_inside _ _ _ c.requires.0 _ _ _ _ _ c.requires.1 c.requires.2 _ _ _ (c.loop-j.invariant.1, c.loop-j.invariant.2) c.loop-j-test.true)

pub loop-j-preserved : goal.loop-j-preserved
loop-j-preserved c =
    let done = returning.turn_ends _ _ _ c.requires.0 _ _ _ _ _ c.requires.1 c.requires.2 _ _ _ (c.loop-j.invariant.1, c.loop-j.invariant.2) c.loop-j-test.true _ c.place-i.ensures _ _ _ c.from-j-in-loop-j.ensures (rw c.loop-j.invariant.0.1 at c.in_ok-come_back.ensures.ends) in
    ((c.in_ok-come_back.ensures.same.0 ∙ c.loop-j.invariant.0.0, c.in_ok-come_back.ensures.same.1 ∙ c.loop-j.invariant.0.1), done.0, done.1)
