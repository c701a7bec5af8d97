-- `admission::visit` meets its contract. Assumes nothing.
use native.Mathlib.Omega.{arith}
use Rattle.std.proofs.lemmas.Result.{err_from_is_err_and}
use Rattle.worklist.proofs.Listed as listed
use Rattle.worklist.proofs.Visits as visits
use Rattle.admission.proofs.Judged as judged
use Rattle.admission.proofs.visit.Goals as goal

pub depths_after-requires : goal.depths_after-requires
depths_after-requires c = listed.place_inside _ _ _ c.requires.0 _ c.requires.1

pub returns-in_err-depths-clause-ends : goal.returns-in_err-depths-clause-ends
returns-in_err-depths-clause-ends c = let p = err_from_is_err_and c.from_residual.result c.from_residual.ensures.1 in rw (p.1, p.2) (judged.alone _ _ _ _ c.in_err-depths.ensures.0 c.in_err-depths.ensures.1 (visits.told_alone _ _ _ c.requires.0 _ c.requires.1 _ c.in_err-depths.ensures.2))

pub routine-routine-requires : goal.routine-routine-requires
routine-routine-requires c = omega (arith, listed.record_inside _ _ _ c.requires.0 _ c.requires.1)

pub sinks-requires : goal.sinks-requires
sinks-requires c = let f = visits.floor_asks _ _ _ c.requires.0 _ c.requires.1 _ c.routine-routine.ensures in (listed.marked-inside _ _ _ c.requires.0 _ c.requires.1, listed.record_inside _ _ _ c.requires.0 _ c.requires.1, f.0, f.1, f.2)

pub new-requires : goal.new-requires
new-requires c = (omega (arith, listed.marked-low _ _ _ c.requires.0 _ c.requires.1), omega arith)

pub returns-then-sinks-clause-ends : goal.returns-then-sinks-clause-ends
returns-then-sinks-clause-ends c = listed.tells _ _ _ _ _ _ c.new.ensures (visits.too_low _ _ _ c.requires.0 _ c.requires.1 _ c.routine-routine.ensures _ c.sinks.ensures c.requires.3 c.if-sinks.true)

pub follow-requires : goal.follow-requires
follow-requires c = let t = c.in_ok-depths.ensures in (c.requires.0, c.requires.1, t.0, visits.is_above _ _ _ c.requires.0 _ c.requires.1 _ c.routine-routine.ensures _ c.sinks.ensures c.if-sinks.false, t.1, c.routine-routine.ensures, c.requires.2, c.requires.3)
