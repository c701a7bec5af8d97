-- `worklist::Worklist::release` meets its contract. The loop's invariant: the calls from place j on go on after themselves, and there is a
-- call at place j - 1. Each turn leads to an earlier one. Assumes nothing.
use Prim.Native.Nat.{◌+◌}
use lib.ListN.{get_or}
use Rattle.model.specs.Machine.{start}
use Rattle.worklist.specs.Worklist.{Same, Extended}
use Rattle.worklist.proofs.Waits.{Released}
use Rattle.worklist.proofs.Worklist.release.Given as goal

abbrev pub invariant-loop-j : goal.invariant-loop-j
invariant-loop-j l =
    Same l.initial.self l.self
    × Extended l.initial.self.program.now l.initial.self.sheet.now l.initial.self.queue.items l.self.sheet.now l.self.queue.items
    × Released l.initial.self.program.now l.self.sheet.now l.self.queue.items (start + l.entry) (get_or l.routines.known l.entry 0) l.work l.j

abbrev pub decreases-loop-j : goal.decreases-loop-j
decreases-loop-j l = l.j
