-- `refusals::check_buffers` meets its contract. Assumes nothing.
use native.Mathlib.Omega.{arith}
use Rattle.model.specs.Machine.{state}
use Rattle.refusals.proofs.Refusals as laws
use Rattle.refusals.proofs.check_buffers.Goals as goal

pub returns-then-memory-ne-MEMORY_SIZE-clause-number : goal.returns-then-memory-ne-MEMORY_SIZE-clause-number
returns-then-memory-ne-MEMORY_SIZE-clause-number c m = omega (arith, laws.memory_wrong (state c.args.memory.now c.args.devices.now c.args.work.now c.args.ret.now m) c.if-memory-ne-MEMORY_SIZE.true)

pub returns-then-devices-ne-PAGE_SIZE-clause-number : goal.returns-then-devices-ne-PAGE_SIZE-clause-number
returns-then-devices-ne-PAGE_SIZE-clause-number c m = laws.devices_wrong _ c.if-memory-ne-MEMORY_SIZE.false c.if-devices-ne-PAGE_SIZE.true

pub returns-then-work-ne-STACK_SIZE-clause-number : goal.returns-then-work-ne-STACK_SIZE-clause-number
returns-then-work-ne-STACK_SIZE-clause-number c m = laws.work_wrong _ c.if-memory-ne-MEMORY_SIZE.false c.if-devices-ne-PAGE_SIZE.false c.if-work-ne-STACK_SIZE.true

pub returns-then-ret-ne-STACK_SIZE-clause-number : goal.returns-then-ret-ne-STACK_SIZE-clause-number
returns-then-ret-ne-STACK_SIZE-clause-number c m = laws.ret_wrong _ c.if-memory-ne-MEMORY_SIZE.false c.if-devices-ne-PAGE_SIZE.false c.if-work-ne-STACK_SIZE.false c.if-ret-ne-STACK_SIZE.true

pub returns-clause-number : goal.returns-clause-number
returns-clause-number c m = laws.none_wrong _ c.if-memory-ne-MEMORY_SIZE.false c.if-devices-ne-PAGE_SIZE.false c.if-work-ne-STACK_SIZE.false c.if-ret-ne-STACK_SIZE.false
