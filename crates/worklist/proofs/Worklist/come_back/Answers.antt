-- `worklist::Worklist::come_back` meets its contract. Assumes nothing.
use native.Mathlib.Omega.{arith}
use Rattle.worklist.proofs.Listed as listed
use Rattle.worklist.proofs.Returns as returning
use Rattle.worklist.proofs.Worklist.come_back.Goals as goal

pub overflow_mul-ret : goal.overflow_mul-ret
overflow_mul-ret c = omega (arith, listed.marked-low _ _ _ c.requires.0 _ c.requires.1)

pub overflow_add-ret : goal.overflow_add-ret
overflow_add-ret c = omega (arith, listed.marked-low _ _ _ c.requires.0 _ c.requires.1)

pub bounds-self-i : goal.bounds-self-i
bounds-self-i c = omega (arith, listed.record_inside _ _ _ c.requires.0 _ c.requires.1)

pub routine-routine-requires : goal.routine-routine-requires
routine-routine-requires c = omega (arith, listed.record_inside _ _ _ c.requires.0 _ c.requires.1)

pub overflow_add-i : goal.overflow_add-i
overflow_add-i c = omega (arith, listed.marked-low _ _ _ c.requires.0 _ c.requires.1)

pub reach_place-requires : goal.reach_place-requires
reach_place-requires c = returning.back_asks _ _ _ c.requires.0 _ c.requires.1 c.requires.2 c.requires.3 _ _ c.requires.4 _ c.routine-routine.ensures

pub new-requires : goal.new-requires
new-requires c = (listed.marked-low _ _ _ c.requires.0 _ c.requires.1, listed.marked-low _ _ _ c.requires.0 _ (_, _, _, c.requires.4.here))

pub returns-then-not-reach_place-clause-ends : goal.returns-then-not-reach_place-clause-ends
returns-then-not-reach_place-clause-ends c = listed.tells _ _ _ _ _ _ c.new.ensures (returning.back_astray _ _ _ c.requires.0 _ c.requires.1 c.requires.2 c.requires.3 _ _ c.requires.4 _ _ c.routine-routine.ensures c.if-not-reach_place.ensures.marked)

pub returns-clause-ends : goal.returns-clause-ends
returns-clause-ends c = returning.back_ends _ _ _ c.requires.0 _ c.requires.1 c.requires.2 c.requires.3 _ _ c.requires.4 _ _ _ c.routine-routine.ensures c.if-not-reach_place.ensures.marked
