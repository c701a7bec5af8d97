-- `blocks::frames` meets its contract. Assumes nothing.
use mathlib.Core.Path.{sym, ◌∙◌}
use native.Mathlib.Omega.{arith}
use Rattle.std.specs.Slice.Iter.{chunks_exact_rest}
use Rattle.blocks.proofs.Blocks as blocks
use Rattle.blocks.proofs.frames.Goals as goal

pub loop-record-preserved : goal.loop-record-preserved
loop-record-preserved g c =
    let s = c.in-Some.ensures.steps in
    let l = s.1.1 ∙ c.loop-record.invariant.2 in
    let before = chunks_exact_rest c.loop-record.record-iterator in
    let left = chunks_exact_rest c.next.new.self in
    let count = blocks.count-left before c.in-Some.record.now left _ _ s.1.0 l c.frame-reply.ensures in (
      rw (s.0, c.loop-record.invariant.2) (omega arith),
      tt,
      s.0 ∙ c.loop-record.invariant.2,
      omega (arith, c.put_line.ensures.len, c.loop-record.invariant.3, count),
      blocks.machine_on before c.in-Some.record.now left _ _ s.1.0 l c.frame-reply.ensures _ _ (c.record_of-machine.ensures _) c.loop-record.invariant.4,
      blocks.lines_on before c.in-Some.record.now left _ _ s.1.0 l c.frame-reply.ensures _ _ _ _ (c.record_of-machine.ensures _) (c.put_line.ensures.bytes _) c.loop-record.invariant.5,
    )

pub returns-clause-machine_left : goal.returns-clause-machine_left
returns-clause-machine_left g c =
    let short = rw c.loop-record.invariant.2 at c.in-None.ensures.steps.1.0 in
    sym (blocks.machine-end _ short _) ∙ c.loop-record.invariant.4

pub returns-clause-lines_put : goal.returns-clause-lines_put
returns-clause-lines_put g c =
    let short = rw c.loop-record.invariant.2 at c.in-None.ensures.steps.1.0 in
    sym (blocks.lines-end _ short _ _) ∙ c.loop-record.invariant.5
