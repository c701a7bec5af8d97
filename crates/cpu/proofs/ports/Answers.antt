-- `cpu::ports` meets its contract. Assumes nothing.
use Rattle.std.proofs.Common.{true, false, arith, rules, eq-eqb, ne_eqb}
use Rattle.model.specs.Machine.{state}
use Rattle.cpu.proofs.Runs.{writes_none, writes}
use Rattle.cpu.proofs.ports.Goals as goal

pub returns-then-byte-ne-DEO : goal.returns-then-byte-ne-DEO
returns-then-byte-ne-DEO c devices = writes_none (state c.args.memory.now devices c.args.work.now c.args.ret.now c.args.m) (search rules) c.if-byte-ne-DEO.true

pub returns-then-byte-eq1 : goal.returns-then-byte-eq1
returns-then-byte-eq1 c devices = writes (state c.args.memory.now devices c.args.work.now c.args.ret.now c.args.m) true c.if-byte-ne-DEO.false (eq-eqb _ _ (omega arith)) c.port_of.ensures c.ports_from.ensures

pub returns : goal.returns
returns c devices = writes (state c.args.memory.now devices c.args.work.now c.args.ret.now c.args.m) false c.if-byte-ne-DEO.false (ne_eqb _ _ (λ z. omega arith)) c.port_of-2.ensures c.ports_from-2.ensures
