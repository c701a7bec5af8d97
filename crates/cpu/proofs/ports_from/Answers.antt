-- `cpu::ports_from` meets its contract. Assumes nothing.
use Rattle.cpu.proofs.Runs.{one_port, two_ports_lem}
use Rattle.cpu.proofs.ports_from.Goals as goal

pub returns-then-wide : goal.returns-then-wide
returns-then-wide c = two_ports_lem _ c.if-wide.true c.second.ensures

pub returns-else-wide : goal.returns-else-wide
returns-else-wide c = one_port _ c.if-wide.false
