-- `admission::visit_all` meets its contract. Assumes nothing.
use mathlib.Core.Path.{◌∙◌}
use native.Mathlib.Omega.{arith}
use Rattle.worklist.proofs.Listed as listed
use Rattle.admission.proofs.Explored as explored
use Rattle.admission.proofs.visit_all.Goals as goal

pub walk-requires : goal.walk-requires
walk-requires c = (c.requires.list, omega arith)

pub returns-then-head-listed-clause-explored : goal.returns-then-head-listed-clause-explored
returns-then-head-listed-clause-explored c = explored.ends _ _ _ _ _ _ (c.in_ok-head.ensures.walked.2 _ _ c.requires) (omega (arith, c.if-head-listed.true))

pub loop-head-init : goal.loop-head-init
loop-head-init c = (c.in_ok-head.ensures.same, rw (c.new-routines.ensures.0, c.new-routines.ensures.1) (c.in_ok-head.ensures.walked.2 _ _ c.requires), c.in_ok-head.ensures.walked.0)

pub loop-head-smaller : goal.loop-head-smaller
loop-head-smaller c = omega (arith, (rw (c.in_ok-visit_routine.ensures.same.1 ∙ c.loop-head.invariant.0.1) at c.in_ok-head-2.ensures.walked).1, c.loop-head-test.true, listed.queue_most _ _ _ c.loop-head.invariant.1.list)

pub loop-head-preserved : goal.loop-head-preserved
loop-head-preserved c =
    let same = c.loop-head.invariant.0 in
    let more = c.in_ok-visit_routine.ensures.same in
    let last = c.in_ok-head-2.ensures.same in
    let ends = rw same.1 at c.in_ok-visit_routine.ensures.ends in
    let walked = rw (more.1 ∙ same.1) at c.in_ok-head-2.ensures.walked in (
      (last.0 ∙ more.0 ∙ same.0, last.1 ∙ more.1 ∙ same.1),
      walked.2 _ _ (explored.next _ _ _ _ _ _ c.loop-head.invariant.1 (omega arith) _ _ _ _ ends),
      walked.0,
    )

pub returns-clause-explored : goal.returns-clause-explored
returns-clause-explored c = explored.ends _ _ _ _ _ _ c.loop-head.invariant.1 (omega arith)
