-- `worklist::Worklist::leave` meets its contract. Assumes nothing.
use mathlib.Core.Path.{refl}
use native.Mathlib.Omega.{arith}
use Rattle.worklist.proofs.Listed as listed
use Rattle.worklist.proofs.Visits as visits
use Rattle.worklist.proofs.Returns as returning
use Rattle.worklist.proofs.Worklist.leave.Goals as goal

pub routine-routine-requires : goal.routine-routine-requires
routine-routine-requires c = omega (arith, returning.record_low _ _ _ _ _ _ c.requires.0 _ c.place-i.ensures)

pub overflow_sub-routine : goal.overflow_sub-routine
overflow_sub-routine c = (visits.floor_asks _ _ _ c.requires.0.list _ (returning.here _ _ _ _ _ _ c.requires.0 _ c.place-i.ensures) _ c.routine-routine.ensures).0

pub floor-requires : goal.floor-requires
floor-requires c = let asks = visits.floor_asks _ _ _ c.requires.0.list _ (returning.here _ _ _ _ _ _ c.requires.0 _ c.place-i.ensures) _ c.routine-routine.ensures in (asks.0, asks.1)

pub bounds-self-i : goal.bounds-self-i
bounds-self-i c = omega (arith, returning.record_low _ _ _ _ _ _ c.requires.0 _ c.place-i.ensures)

pub returns-then-floor-self-clause-ends : goal.returns-then-floor-self-clause-ends
returns-then-floor-self-clause-ends c = listed.tells _ _ _ _ _ _ c.new.ensures (returning.off_floor _ _ _ _ _ _ c.requires.0 _ c.place-i.ensures c.requires.1 c.requires.2 _ c.routine-routine.ensures _ c.floor.ensures c.if-floor-self.true)

pub bounds-self-i-2 : goal.bounds-self-i-2
bounds-self-i-2 c = omega (arith, returning.record_low _ _ _ _ _ _ c.requires.0 _ c.place-i.ensures)

pub bounds-routines-entry : goal.bounds-routines-entry
bounds-routines-entry c = omega (arith, returning.entry-inside _ _ _ _ _ _ c.requires.0 _ c.place-i.ensures c.requires.1 c.requires.2 _ c.routine-routine.ensures _ c.floor.ensures c.if-floor-self.false _ c.from-entry.ensures)

pub bounds-self-other : goal.bounds-self-other
bounds-self-other c = omega (arith, returning.other_record _ _ _ _ _ _ c.requires.0 _ c.place-i.ensures c.requires.1 c.requires.2 _ c.routine-routine.ensures _ c.floor.ensures c.if-floor-self.false _ c.from-entry.ensures c.if-known-ge-RETURNED.true _ c.from-other.ensures)

pub returns-then-self-other-clause-ends : goal.returns-then-self-other-clause-ends
returns-then-self-other-clause-ends c = returning.known _ _ _ _ _ _ c.requires.0 _ c.place-i.ensures c.requires.1 c.requires.2 _ c.routine-routine.ensures _ c.floor.ensures c.if-floor-self.false _ c.from-entry.ensures c.if-known-ge-RETURNED.true _ c.from-other.ensures c.if-self-other.true

pub new-requires-then-known-ge-RETURNED : goal.new-requires-then-known-ge-RETURNED
new-requires-then-known-ge-RETURNED c = let low = listed.marked-low _ _ _ c.requires.0.list _ (returning.here _ _ _ _ _ _ c.requires.0 _ c.place-i.ensures) in (low, omega (arith, low, returning.other-inside _ _ _ _ _ _ c.requires.0 _ c.place-i.ensures c.requires.1 c.requires.2 _ c.routine-routine.ensures _ c.floor.ensures c.if-floor-self.false _ c.from-entry.ensures c.if-known-ge-RETURNED.true _ c.from-other.ensures, c.requires.0.list.most))

pub returns-then-known-ge-RETURNED-clause-ends : goal.returns-then-known-ge-RETURNED-clause-ends
returns-then-known-ge-RETURNED-clause-ends c = listed.tells _ _ _ _ _ _ c.new-then-known-ge-RETURNED.ensures (returning.another _ _ _ _ _ _ c.requires.0 _ c.place-i.ensures c.requires.1 c.requires.2 _ c.routine-routine.ensures _ c.floor.ensures c.if-floor-self.false _ c.from-entry.ensures c.if-known-ge-RETURNED.true _ c.from-other.ensures c.if-self-other.false)

pub release-next-requires : goal.release-next-requires
release-next-requires c = returning.release_asks _ _ _ _ _ _ c.requires.0 _ c.place-i.ensures c.requires.1 c.requires.2 _ c.routine-routine.ensures _ c.floor.ensures c.if-floor-self.false _ c.from-entry.ensures c.if-known-ge-RETURNED.false

pub bounds-routines-entry-2 : goal.bounds-routines-entry-2
bounds-routines-entry-2 c = omega (arith, returning.entry-inside _ _ _ _ _ _ c.requires.0 _ c.place-i.ensures c.requires.1 c.requires.2 _ c.routine-routine.ensures _ c.floor.ensures c.if-floor-self.false _ c.from-entry.ensures)

pub returns-clause-ends : goal.returns-clause-ends
returns-clause-ends c = returning.first-visited _ _ _ _ _ _ c.requires.0 _ c.place-i.ensures c.requires.1 c.requires.2 _ c.routine-routine.ensures _ c.floor.ensures c.if-floor-self.false _ c.from-entry.ensures c.if-known-ge-RETURNED.false _ _ _ refl c.release-next.result c.release-next.ensures.ends
