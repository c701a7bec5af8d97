-- `worklist::Worklist::follow` meets its contract. Assumes nothing.
use mathlib.Core.Logic.{inr}
use native.Mathlib.Omega.{arith}
use Rattle.worklist.proofs.Listed as listed
use Rattle.worklist.proofs.Visits as visits
use Rattle.worklist.proofs.Worklist.follow.Goals as goal

pub bounds-program-i : goal.bounds-program-i
bounds-program-i c = listed.marked-inside _ _ _ c.requires.0 _ c.requires.1

pub returns-then-byte-eq-BRK-clause-ends : goal.returns-then-byte-eq-BRK-clause-ends
returns-then-byte-eq-BRK-clause-ends c = visits.brk_ends _ _ _ c.requires.0 _ c.requires.1 _ _ c.requires.2 c.requires.3 _ _ c.requires.4 c.requires.5 c.requires.6 c.requires.7 c.if-byte-eq-BRK.true

pub jump_target-target-requires : goal.jump_target-target-requires
jump_target-target-requires c = visits.jmi_inside _ _ _ c.requires.0 _ c.requires.1 _ _ c.requires.2 c.if-byte-eq-JMI.true

pub reach-requires : goal.reach-requires
reach-requires c = (
  c.requires.0,
  visits.led-jump _ _ _ c.requires.0 _ c.requires.1 _ _ c.requires.2 c.if-byte-eq-JMI.true _ c.jump_target-target.ensures _ c.requires.5,
  inr (visits.root_after _ _ _ c.requires.0 _ c.requires.1 _ _ c.requires.2 c.requires.3 _ c.requires.5),
)

pub returns-then-not-reach-clause-ends : goal.returns-then-not-reach-clause-ends
returns-then-not-reach-clause-ends c = listed.tells _ _ _ _ _ _ c.new.ensures (visits.jump_astray _ _ _ c.requires.0 _ c.requires.1 _ _ c.requires.2 c.if-byte-eq-JMI.true _ _ c.jump_target-target.ensures _ c.requires.5 c.if-not-reach.ensures.marked)

pub returns-then-byte-eq-JMI-clause-ends : goal.returns-then-byte-eq-JMI-clause-ends
returns-then-byte-eq-JMI-clause-ends c = visits.jump_ends _ _ _ c.requires.0 _ c.requires.1 _ _ c.requires.2 c.requires.3 _ _ c.requires.4 c.requires.5 c.requires.6 c.requires.7 _ _ c.if-byte-eq-JMI.true _ c.jump_target-target.ensures c.if-not-reach.ensures.marked

pub reach_place-requires : goal.reach_place-requires
reach_place-requires c = (
  c.requires.0,
  visits.led-next _ _ _ c.requires.0 _ c.requires.1 _ _ c.requires.2 c.requires.3 _ _ c.requires.4 c.requires.5 c.requires.6 c.requires.7 c.if-byte-eq-BRK.false c.if-byte-eq-JMI.false,
  inr (visits.root_after _ _ _ c.requires.0 _ c.requires.1 _ _ c.requires.2 c.requires.3 _ c.requires.5),
)

pub returns-then-not-reach_place-clause-ends : goal.returns-then-not-reach_place-clause-ends
returns-then-not-reach_place-clause-ends c = listed.tells _ _ _ _ _ _ c.new-then-not-reach_place.ensures (visits.next_astray _ _ _ c.requires.0 _ c.requires.1 _ _ c.requires.2 c.requires.3 _ _ c.requires.4 c.requires.5 c.requires.6 c.requires.7 c.if-byte-eq-BRK.false c.if-byte-eq-JMI.false _ c.if-not-reach_place.ensures.marked)

pub returns-then-byte-ne-JCI-clause-ends : goal.returns-then-byte-ne-JCI-clause-ends
returns-then-byte-ne-JCI-clause-ends c = visits.next_ends _ _ _ c.requires.0 _ c.requires.1 _ _ c.requires.2 c.requires.3 _ _ c.requires.4 c.requires.5 c.requires.6 c.requires.7 _ _ c.if-byte-eq-BRK.false c.if-byte-eq-JMI.false (λ z. omega arith) c.if-not-reach_place.ensures.marked

pub jump_target-target-requires-2 : goal.jump_target-target-requires-2
jump_target-target-requires-2 c = visits.jci_inside _ _ _ c.requires.0 _ c.requires.1 _ _ c.requires.2 (omega arith)

pub reach-requires-2 : goal.reach-requires-2
reach-requires-2 c = rw c.if-not-reach_place.ensures.same.1 (
  c.if-not-reach_place.ensures.marked.0.list,
  visits.led_branch _ _ _ c.requires.0 _ c.requires.1 _ _ c.requires.2 c.requires.3 _ _ c.requires.4 c.requires.5 c.requires.6 c.requires.7 (omega arith) _ c.jump_target-target-2.ensures,
  inr (listed.grown-rooted _ _ _ c.if-not-reach_place.ensures.marked.0.grown _ _ (visits.root_after _ _ _ c.requires.0 _ c.requires.1 _ _ c.requires.2 c.requires.3 _ c.requires.5)),
)

pub returns-then-not-reach-2-clause-ends : goal.returns-then-not-reach-2-clause-ends
returns-then-not-reach-2-clause-ends c = listed.tells _ _ _ _ _ _ c.new-then-not-reach-2.ensures (visits.branch_astray _ _ _ c.requires.0 _ c.requires.1 _ _ c.if-not-reach_place.ensures.marked.0 _ _ c.requires.2 c.requires.3 _ _ c.requires.4 c.requires.5 c.requires.6 c.requires.7 (omega arith) _ _ c.jump_target-target-2.ensures (rw c.if-not-reach_place.ensures.same.1 at c.if-not-reach-2.ensures.marked))

pub returns-clause-ends : goal.returns-clause-ends
returns-clause-ends c = visits.branch_ends _ _ _ c.requires.0 _ c.requires.1 _ _ c.requires.2 c.requires.3 _ _ c.requires.4 c.requires.5 c.requires.6 c.requires.7 _ _ (omega arith) c.if-not-reach_place.ensures.marked _ _ _ c.jump_target-target-2.ensures (rw c.if-not-reach_place.ensures.same.1 at c.if-not-reach-2.ensures.marked)
