-- `blocks::frames` meets its contract. The loop's invariant: the records that are left, behind what there is, come to what all come to.
-- Assumes nothing.
use mathlib.Core.Path.{◌≡◌}
use mathlib.Core.List.{◌++◌}
use Prim.Native.Nat.{◌≤◌, ◌+◌, ◌*◌}
use Rattle.std.specs.Slice.Iter.{chunks_exact_rest, chunks_exact_size}
use Rattle.arrayvec.specs.ArrayVec.{array_vec_len}
use Rattle.model.specs.Machine.{state}
use Rattle.model.specs.Calls.{frame_size}
use Rattle.blocks.specs.Frames.{whole_records, machine_after, first_lines}
use Rattle.text.specs.Lines.{line_most}
use Rattle.blocks.proofs.frames.Given as goal

abbrev pub invariant-loop-record : goal.invariant-loop-record
invariant-loop-record g l =
    (goal.iterator-loop-record g).can_next l.record-iterator
    × (goal.iterator-loop-record g).is_finite l.record-iterator
    × (chunks_exact_size l.record-iterator ≡ frame_size)
    × (array_vec_len l.out + line_most * whole_records (chunks_exact_rest l.record-iterator) ≤ array_vec_len l.initial.out + line_most * whole_records l.records)
    × (machine_after (chunks_exact_rest l.record-iterator) (state l.memory l.devices l.work l.ret l.machine) (whole_records (chunks_exact_rest l.record-iterator))
    ≡ machine_after l.records (state l.initial.memory l.initial.devices l.initial.work l.initial.ret l.initial.machine) (whole_records l.records))
    × (l.out.items ++ first_lines (chunks_exact_rest l.record-iterator) (state l.memory l.devices l.work l.ret l.machine) (whole_records (chunks_exact_rest l.record-iterator))
    ≡ l.initial.out.items ++ first_lines l.records (state l.initial.memory l.initial.devices l.initial.work l.initial.ret l.initial.machine) (whole_records l.records))
