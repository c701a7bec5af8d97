-- `admission::visit_routine` meets its contract. Assumes nothing.
use Rattle.std.proofs.lemmas.Result.{err_from_is_err_and}
use Rattle.worklist.proofs.Listed as listed
use Rattle.worklist.proofs.Visits as visits
use Rattle.worklist.proofs.Returns as returning
use Rattle.admission.proofs.Judged as judged
use Rattle.admission.proofs.visit_routine.Goals as goal

pub depths_after-requires : goal.depths_after-requires
depths_after-requires c = listed.place_inside _ _ _ c.requires.0.list _ (returning.here _ _ _ _ _ _ c.requires.0 _ c.place-i.ensures)

pub returns-in_err-depths-clause-ends : goal.returns-in_err-depths-clause-ends
returns-in_err-depths-clause-ends c = let p = err_from_is_err_and c.from_residual.result c.from_residual.ensures.1 in rw (p.1, p.2) (judged.alone _ _ _ _ c.in_err-depths.ensures.0 c.in_err-depths.ensures.1 (visits.told_alone _ _ _ c.requires.0.list _ (returning.here _ _ _ _ _ _ c.requires.0 _ c.place-i.ensures) _ c.in_err-depths.ensures.2))

pub call-requires : goal.call-requires
call-requires c = let j = judged.of_call _ (rw c.place-i.ensures c.requires.1) c.if-list-i-eq-RETURN.false in (c.requires.0, c.place-i.ensures, c.in_ok-depths.ensures.0, visits.call-above _ _ _ c.requires.0.list _ (returning.here _ _ _ _ _ _ c.requires.0 _ c.place-i.ensures) j, j)
