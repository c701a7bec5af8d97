-- `moves::some_record` meets its contract. The loop's invariant: of no record that was seen does the test hold. Assumes nothing.
use Rattle.std.proofs.Common.{◌≡◌, ℕ, List, Bool}
use Rattle.std.specs.Slice.Iter.{chunks_exact_rest, chunks_exact_size}
use Rattle.model.specs.Moves.{records_of, some_record}
use Rattle.moves.specs.Judging.{Tells}
use Rattle.moves.proofs.some_record.Given as goal

abbrev pub invariant-loop-record : goal.invariant-loop-record
invariant-loop-record g l =
    (goal.iterator-loop-record g).can_next l.record-iterator
    × (goal.iterator-loop-record g).is_finite l.record-iterator
    × (chunks_exact_size l.record-iterator ≡ l.size)
    × ((holds : List ℕ → Bool) → Tells l.size (goal.F-post g l.test) holds
    → some_record holds (records_of l.size (chunks_exact_rest l.record-iterator)) ≡ some_record holds (records_of l.size l.file))
