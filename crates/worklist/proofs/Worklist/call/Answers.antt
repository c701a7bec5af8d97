-- `worklist::Worklist::call` meets its contract. Assumes nothing.
use native.Mathlib.Omega.{arith}
use Rattle.worklist.proofs.Listed as listed
use Rattle.worklist.proofs.Visits as visits
use Rattle.worklist.proofs.Returns as returning
use Rattle.worklist.proofs.Worklist.call.Goals as goal

pub jump_target-target-requires : goal.jump_target-target-requires
jump_target-target-requires c = visits.jsi_inside _ _ _ c.requires.0.list _ (returning.here _ _ _ _ _ _ c.requires.0 _ c.requires.1) _ _ c.requires.2 c.requires.4

pub reach-requires : goal.reach-requires
reach-requires c = returning.call_asks _ _ _ _ _ _ c.requires.0 _ c.requires.1 c.requires.4 _ _ c.requires.2 c.requires.3 _ c.jump_target-target.ensures

pub returns-then-not-reach-clause-ends : goal.returns-then-not-reach-clause-ends
returns-then-not-reach-clause-ends c = listed.tells _ _ _ _ _ _ c.new.ensures (returning.call_astray _ _ _ _ _ _ c.requires.0 _ c.requires.1 c.requires.4 _ _ c.requires.2 c.requires.3 _ c.jump_target-target.ensures _ c.if-not-reach.ensures.marked)

pub bounds-routines-entry : goal.bounds-routines-entry
bounds-routines-entry c = omega (arith, returning.target-inside _ _ _ _ _ _ c.requires.0 _ c.requires.1 c.requires.4 _ _ c.requires.2 c.requires.3 _ c.jump_target-target.ensures _ _ c.if-not-reach.ensures.marked _ c.from-entry.ensures)

pub offset_bounds-routines-head : goal.offset_bounds-routines-head
offset_bounds-routines-head c = omega (arith, returning.head_inside _ _ _ _ _ _ c.requires.0 _ c.requires.1)

pub bounds-routines-head : goal.bounds-routines-head
bounds-routines-head c = omega (arith, returning.head_inside _ _ _ _ _ _ c.requires.0 _ c.requires.1)

pub overflow_add-routines : goal.overflow_add-routines
overflow_add-routines c = omega (arith, returning.head_inside _ _ _ _ _ _ c.requires.0 _ c.requires.1)

pub overflow_cast-routines : goal.overflow_cast-routines
overflow_cast-routines c = omega (arith, returning.head_inside _ _ _ _ _ _ c.requires.0 _ c.requires.1)

pub bounds-routines-entry-then-known-lt-RETURNED : goal.bounds-routines-entry-then-known-lt-RETURNED
bounds-routines-entry-then-known-lt-RETURNED c = omega (arith, returning.target-inside _ _ _ _ _ _ c.requires.0 _ c.requires.1 c.requires.4 _ _ c.requires.2 c.requires.3 _ c.jump_target-target.ensures _ _ c.if-not-reach.ensures.marked _ c.from-entry.ensures)

pub returns-then-known-lt-RETURNED-clause-ends : goal.returns-then-known-lt-RETURNED-clause-ends
returns-then-known-lt-RETURNED-clause-ends c = returning.no_return _ _ _ _ _ _ c.requires.0 _ c.requires.1 c.requires.4 _ _ c.requires.2 c.requires.3 _ c.jump_target-target.ensures _ _ c.if-not-reach.ensures.marked _ c.from-entry.ensures (omega arith)

pub bounds-self-from : goal.bounds-self-from
bounds-self-from c = omega (arith, returning.from_record _ _ _ _ _ _ c.requires.0 _ c.requires.1 c.requires.4 _ _ c.requires.2 c.requires.3 _ c.jump_target-target.ensures _ _ c.if-not-reach.ensures.marked _ c.from-entry.ensures (omega arith) _ c.from-from.ensures)

pub come_back-requires : goal.come_back-requires
come_back-requires c = rw c.if-not-reach.ensures.same.1 (returning.come_asks _ _ _ _ _ _ c.requires.0 _ c.requires.1 c.requires.4 _ _ c.requires.2 c.requires.3 _ c.jump_target-target.ensures _ _ c.if-not-reach.ensures.marked _ c.from-entry.ensures (omega arith) _ c.from-from.ensures)

pub returns-clause-ends : goal.returns-clause-ends
returns-clause-ends c = returning.come_visited _ _ _ _ _ _ c.requires.0 _ c.requires.1 c.requires.4 _ _ c.requires.2 c.requires.3 _ c.jump_target-target.ensures _ _ c.if-not-reach.ensures.marked _ c.from-entry.ensures (omega arith) _ c.from-from.ensures _ _ c.come_back.result (rw c.if-not-reach.ensures.same.1 at c.come_back.ensures.ends)
