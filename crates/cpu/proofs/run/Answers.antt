-- `cpu::run` meets its contract. Assumes nothing.
use Rattle.std.proofs.Common.{sym, refl, ◌∙◌, arith}
use Rattle.cpu.proofs.Runs.{goes_on_lem, stops, ends, unspent_is, spent}
use Rattle.cpu.proofs.run.Goals as goal

pub returns-then-pauses : goal.returns-then-pauses
returns-then-pauses c = (rw c.raise.ensures (stops _ _ _ _ (omega arith) c.loop-left.invariant.0 _ _ _ _ c.in-WentOn.is c.carry_out-reply.ensures (sym c.pauses.ensures ∙ c.if-pauses.true) refl ∙ c.loop-left.invariant.1), omega arith)

pub loop-left-preserved : goal.loop-left-preserved
loop-left-preserved c = (omega arith, rw c.raise-machine.ensures (sym (goes_on_lem _ _ _ _ (omega arith) c.loop-left.invariant.0 _ _ _ _ c.in-WentOn.is c.carry_out-reply.ensures (sym c.pauses.ensures ∙ c.if-pauses.false)) ∙ c.loop-left.invariant.1))

pub returns-in_default : goal.returns-in_default
returns-in_default c = rw c.ended.ensures (ends _ _ _ _ (omega arith) c.loop-left.invariant.0 _ _ c.carry_out-reply.result c.in_default.is c.carry_out-reply.ensures refl ∙ c.loop-left.invariant.1, unspent_is c.carry_out-reply.result _ (omega arith))

pub returns : goal.returns
returns c = (spent _ _ _ _ c.loop-left-test.false ∙ c.loop-left.invariant.1, omega arith)
