-- `buffers::place` meets its contract. The loop's invariant: the first k bytes are those of the source, the others as they were. Assumes
-- nothing.
use Rattle.std.specs.Prelude.{◌≡◌, ◌++◌, length, take, drop}
use Rattle.buffers.proofs.place.Given as goal

abbrev pub invariant-loop-k : goal.invariant-loop-k
invariant-loop-k l =
    (length l.part ≡ length l.initial.part) × (l.part ≡ take l.k l.source ++ drop l.k l.initial.part)
