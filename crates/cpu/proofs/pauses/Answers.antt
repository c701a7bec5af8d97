-- `cpu::pauses` meets its contract. Assumes nothing.
use Rattle.std.proofs.Common.{arith, rules, ◌<◌}
use Rattle.cpu.proofs.Runs.{among_places}
use Rattle.cpu.proofs.pauses.Goals as goal

pub returns-in-Some : goal.returns-in-Some
returns-in-Some c = let h : c.in-Some.port < 256 = search rules in rw c.in-Some.is (among_places _ _ _ (omega arith) (omega (arith, h)))
