-- `frames::stream::stream_records` meets its contract. Assumes nothing.
use mathlib.Core.Path.{◌≡◌}
use Prim.Native.Nat.{◌<◌}
use lib.ListN.{length, take}
use Rattle.model.specs.Machine.{state}
use Rattle.model.specs.Calls.{frame_size}
use Rattle.frames.specs.Reading.{block_size}
use Rattle.frames.proofs.Coming as coming
use Rattle.frames.proofs.stream.stream_records.Given as goal

abbrev pub invariant-loop-turn : goal.invariant-loop-turn
invariant-loop-turn g l = (length l.memory ≡ length l.initial.memory) × (length l.devices ≡ length l.initial.devices) × (length l.work ≡ length l.initial.work) × (length l.ret ≡ length l.initial.ret) × (length l.block ≡ block_size) × (l.worked.waiting < frame_size) × coming.SoFar (state l.initial.memory l.initial.devices l.initial.work l.initial.ret l.initial.worked.machine) (state l.memory l.devices l.work l.ret l.worked.machine) (take l.worked.waiting l.block)
