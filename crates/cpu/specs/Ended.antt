-- One instruction apart from the high marks, the marks of a machine record, what the end of a run stands for, and which end an
-- instruction's answer gives. Assumes nothing.
use Rattle.std.specs.Prelude.{ℕ, ◌-◌, []}
use Rattle.model.specs.Machine.{State, state, registers}
use Rattle.model.specs.Step.{fetched, raised}
use Rattle.model.specs.Run.{Reply, reply}
use Rattle.model.specs.Run.Answer.{Broke, Spent, Paused}
use Rattle.model.specs.declared.Machine.{Machine}
use Rattle.operations.specs.After.{executed}
use Rattle.execute.specs.declared.Stepped.{Stepped}
use Rattle.cpu.specs.declared.End.{End}

-- the reply of a step whose high marks are not raised yet: the byte fetched is carried out
unfoldable pub carried_out : State → Reply
carried_out s = executed (fetched s) s

-- a machine record with its high marks raised, as a step raises those of a state: its buffers do not count
abbrev pub raised_record : Machine → Machine
raised_record m = registers (raised (state [] [] [] [] m))

-- the part of the budget that is not spent
abbrev pub unspent : End → ℕ
unspent (End.Broke m n) = n
unspent (End.Spent m) = 0
unspent (End.Paused m n) = n

-- the reply of a run with this budget: the steps are the part of it that is spent. `state_of` makes the state of the machine
-- record and the four buffers
abbrev pub of_end : ℕ → (Machine → State) → End → Reply
of_end budget state_of (End.Broke m n) = reply Broke (budget - n) 0 (state_of m)
of_end budget state_of (End.Spent m) = reply Spent budget 0 (state_of m)
of_end budget state_of (End.Paused m n) = reply Paused (budget - n) 0 (state_of m)

-- the end of a run whose last instruction answered this, with so much of the budget not spent
abbrev pub ended_by : Stepped → ℕ → End
ended_by (Stepped.WentOn m sent) n = End.Spent (raised_record m)
ended_by (Stepped.Broke m) n = End.Broke (raised_record m) n
