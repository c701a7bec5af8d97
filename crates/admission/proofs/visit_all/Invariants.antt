-- `admission::visit_all` meets its contract. Assumes nothing.
use Prim.Native.Nat.{◌-◌}
use lib.ListN.{length}
use Rattle.worklist.specs.Worklist.{Same}
use Rattle.admission.specs.Explored.{Going, Met}
use Rattle.admission.proofs.visit_all.Given as goal

abbrev pub invariant-loop-head : goal.invariant-loop-head
invariant-loop-head l =
    Same l.fn.list l.list
    × Going l.fn.list.program.now l.list.sheet.now l.list.queue.items l.head l.routines.known l.routines.before
    × Met l.fn.list.program.now l.list.queue.items l.head

abbrev pub decreases-loop-head : goal.decreases-loop-head
decreases-loop-head l = length l.fn.list.program.now - l.head
