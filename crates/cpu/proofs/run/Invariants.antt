-- `cpu::run` meets its contract. Assumes nothing.
use Rattle.std.proofs.Common.{◌≡◌, ◌-◌, ◌≤◌}
use Rattle.model.specs.Machine.{state}
use Rattle.model.specs.Run.{more, run}
use Rattle.cpu.proofs.run.Given as goal

abbrev pub invariant-loop-left : goal.invariant-loop-left
invariant-loop-left l =
    (l.left ≤ l.budget)
    × (more (l.budget - l.left) (run l.watch l.left (state l.memory l.devices l.work l.ret l.machine))
    ≡ run l.watch l.budget (state l.initial.memory l.initial.devices l.initial.work l.initial.ret l.initial.machine))

abbrev pub decreases-loop-left : goal.decreases-loop-left
decreases-loop-left l = l.left
