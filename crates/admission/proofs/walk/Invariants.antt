-- `admission::walk` meets its contract. Assumes nothing.
use Prim.Native.Nat.{◌-◌}
use lib.ListN.{length}
use Rattle.worklist.specs.Worklist.{Same}
use Rattle.admission.proofs.Explored.{Walking}
use Rattle.admission.proofs.walk.Given as goal

abbrev pub invariant-loop-head : goal.invariant-loop-head
invariant-loop-head l =
    Same l.initial.list l.list
    × Walking l.initial.list.program.now l.initial.list.sheet.now l.initial.list.queue.items l.first l.list.sheet.now l.list.queue.items l.head

abbrev pub decreases-loop-head : goal.decreases-loop-head
decreases-loop-head l = length l.initial.list.program.now - l.head
