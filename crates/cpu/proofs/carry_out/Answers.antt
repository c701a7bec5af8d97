-- `cpu::carry_out` meets its contract. Assumes nothing.
use Rattle.std.proofs.Common.{rules}
use Rattle.cpu.proofs.Runs.{carries_out}
use Rattle.cpu.proofs.carry_out.Goals as goal

pub returns : goal.returns
returns c = carries_out _ (search rules) c.execute.ensures
