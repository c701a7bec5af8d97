-- `admission::walk` meets its contract. Assumes nothing.
use mathlib.Core.Path.{◌∙◌}
use native.Mathlib.Omega.{arith}
use Rattle.worklist.proofs.Listed as listed
use Rattle.admission.proofs.Judged as judged
use Rattle.admission.proofs.Explored as explored
use Rattle.admission.proofs.walk.Goals as goal

pub bounds-list-i : goal.bounds-list-i
bounds-list-i c = rw c.loop-head.invariant.0.1 (listed.marked-inside _ _ _ c.loop-head.invariant.1.list _ (explored.walk_here _ _ _ _ _ _ _ c.loop-head.invariant.1 (omega arith) _ c.place-i.ensures))

pub visit-requires : goal.visit-requires
visit-requires c = let n = judged.neither _ _ c.of_routines.ensures c.if-of_routines.false in (rw c.loop-head.invariant.0.1 c.loop-head.invariant.1.list, explored.walk_here _ _ _ _ _ _ _ c.loop-head.invariant.1 (omega arith) _ c.place-i.ensures, n.0, n.1)

pub loop-head-smaller : goal.loop-head-smaller
loop-head-smaller c = omega (arith, c.loop-head-test.true, listed.queue_most _ _ _ c.loop-head.invariant.1.list)

pub loop-head-preserved : goal.loop-head-preserved
loop-head-preserved c =
    let same = c.loop-head.invariant.0 in
    let n = judged.neither _ _ (rw same.1 at c.of_routines.ensures) c.if-of_routines.false in (
      (c.in_ok-visit.ensures.same.0 ∙ same.0, c.in_ok-visit.ensures.same.1 ∙ same.1),
      explored.walk_next _ _ _ _ _ _ _ c.loop-head.invariant.1 (omega arith) _ c.place-i.ensures n.0 n.1 _ _ (rw same.1 at c.in_ok-visit.ensures.ends),
    )
