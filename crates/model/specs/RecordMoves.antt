-- Document 02, C-16: "Desks hold files of old records: move each to the new form by adding zeros, and back where L is at most 62."
-- Assumes nothing.
use Rattle.std.specs.Prelude.{◌≡◌, Bool, not, List, [], ◌∷◌, ◌++◌, ℕ, ◌-◌, ◌%◌, ◌≤◌, eqb, ltb, length, get_or, take}
use Rattle.model.specs.Bytes.{zeros}
use Rattle.model.specs.Calls.{Row, refusal, frame_size, frame_most, well_formed}
use Rattle.model.specs.Writes.{WriteResult, written, write_unless, wrote}
use Rattle.model.specs.Moves.{records_of, some_record, each_record, short_for}
use Rattle.model.specs.declared.Form.{Form}

-- the form of a frame record: how many bytes it has, and the most that L may be. The old one is document 01's: "a record of exactly 64
-- bytes, no header: length L (0 to 62), node number, L data bytes, zeros to the end"
abbrev pub old_form : Form
old_form = record { size = 64; most = 62 }

abbrev pub new_form : Form
new_form = record { size = frame_size; most = frame_most }

-- ---- a record

-- "a broken one by its form's rules": "L above 62, or a byte past the data not 0", and in the new form "L above 126 or a tail byte
-- not 0"
unfoldable pub broken : ℕ → List ℕ → Bool
broken most entry = not (well_formed most entry)

-- "one too long to go back": L is above what the other form allows
unfoldable pub too_long : ℕ → List ℕ → Bool
too_long most entry = ltb most (get_or entry 0 0)

-- as many bytes as the other form has: "by adding zeros, and back"
unfoldable pub fitted : ℕ → List ℕ → List ℕ
fitted size entry = take size entry ++ zeros (size - length entry)

-- ---- a file

-- each whole record in the other form, one after the other
unfoldable pub moved_file : Form → Form → List ℕ → List ℕ
moved_file from to file = each_record (fitted to.size) (records_of from.size file)

-- "15 for a file not of whole records, then 8 for a broken one by its form's rules, then 16 for one too long to go back": each is judged
-- over the whole file before the next
unfoldable pub file_rows : Form → Form → List ℕ → List Row
file_rows from to file =
    (15, not (eqb (length file % from.size) 0))
    ∷ (8, some_record (broken from.most) (records_of from.size file))
    ∷ (16, some_record (too_long to.most) (records_of from.size file))
    ∷ []

-- "then 13 for a short output"
unfoldable pub move_rows : Form → Form → List ℕ → List ℕ → List Row
move_rows from to file output = file_rows from to file ++ ((13, short_for (moved_file from to file) output) ∷ [])

-- ---- the two calls: one in two directions. No record is too long for the new form that is not broken in the old one

unfoldable pub move_call : Form → Form → List ℕ → List ℕ → WriteResult
move_call from to file output = write_unless (refusal (move_rows from to file output)) (moved_file from to file) output

abbrev pub widen_records : List ℕ → List ℕ → WriteResult
widen_records = move_call old_form new_form

abbrev pub narrow_records : List ℕ → List ℕ → WriteResult
narrow_records = move_call new_form old_form

-- ---- there and back

-- "Old to new to old gives the same bytes": what a move that is not refused wrote, moved back into any output with room, gives the file as
-- it was; and new to old to new
pub record RecordsThereAndBack : Type 0 where
  pub old : (old output room : List ℕ) → (widen_records old output).number ≡ 0 → length old ≤ length room
      → narrow_records (wrote (widen_records old output)) room ≡ written old room
  pub new : (new output room : List ℕ) → (narrow_records new output).number ≡ 0 → length new ≤ length room
      → widen_records (wrote (narrow_records new output)) room ≡ written new room
