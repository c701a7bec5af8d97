-- `moves::each_record` meets its contract. The loop's invariant: what is put so far, before the rest of the records changed, is all of
-- them changed. Assumes nothing.
use Rattle.std.proofs.Common.{◌≡◌, List, ℕ, take, ◌++◌}
use Rattle.std.specs.Slice.Iter.{chunks_exact_rest, chunks_exact_size}
use Rattle.model.specs.Moves.{records_of, each_record}
use Rattle.moves.specs.Judging.{Puts}
use Rattle.moves.proofs.Sheets.{Left}
use Rattle.moves.proofs.each_record.Given as goal

abbrev pub invariant-loop-entry : goal.invariant-loop-entry
invariant-loop-entry g l =
    (goal.iterator-loop-entry g).can_next l.entry-iterator
    × (goal.iterator-loop-entry g).is_finite l.entry-iterator
    × (chunks_exact_size l.entry-iterator ≡ l.size)
    × Left l.size l.room (chunks_exact_rest l.entry-iterator) l.initial.output l.output l.put
    × ((changed : List ℕ → List ℕ) → Puts l.size l.room (goal.F-post g l.change) changed
    → take l.put l.output ++ each_record changed (records_of l.size (chunks_exact_rest l.entry-iterator)) ≡ each_record changed (records_of l.size l.file))
