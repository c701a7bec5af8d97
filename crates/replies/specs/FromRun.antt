-- The replies of step, run, event and frame, from the end of the run that they make. A step and a frame watch nothing, and theirs is
-- never Paused. Assumes nothing.
use Rattle.std.specs.Prelude.{ℕ, ◌-◌}
use Rattle.model.specs.declared.Ports.{Ports}
use Rattle.model.specs.declared.StepEnd.{StepEnd}
use Rattle.model.specs.declared.RunEnd.{RunEnd}
use Rattle.model.specs.declared.FrameEnd.{FrameEnd}
use Rattle.cpu.specs.declared.End.{End}

abbrev pub step_of : Ports → End → StepEnd
step_of ports (End.Broke m unspent) = StepEnd.Broke m
step_of ports (End.Spent m) = StepEnd.WentOn m ports
step_of ports (End.Paused m unspent) = StepEnd.WentOn m ports

-- of a run, and of an event that is not ignored
abbrev pub run_of : ℕ → End → RunEnd
run_of budget (End.Broke m unspent) = RunEnd.Broke m (budget - unspent)
run_of budget (End.Spent m) = RunEnd.Spent m budget
run_of budget (End.Paused m unspent) = RunEnd.Paused m (budget - unspent)

abbrev pub frame_of : ℕ → End → ℕ → FrameEnd
frame_of budget (End.Broke m unspent) verdict = FrameEnd.Broke m (budget - unspent) verdict
frame_of budget (End.Spent m) verdict = FrameEnd.Spent m budget
frame_of budget (End.Paused m unspent) verdict = FrameEnd.Spent m (budget - unspent)
