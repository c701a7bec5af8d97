-- Document 02, C-19: "Old sheets move to the new form with routine 0100, and back if no other is marked." The old form has four
-- bytes a record, the new one eight.
-- Assumes nothing.
use Rattle.std.specs.Prelude.{◌≡◌, Bool, false, cond, not, ◌&&◌, ◌||◌, List, [], ◌∷◌, ◌++◌, ℕ, zero, suc, ◌/◌, ◌%◌, ◌≤◌, eqb, ltb, length, get_or, take, drop}
use Rattle.model.specs.Bytes.{Bytes, zeros, word, number}
use Rattle.model.specs.Machine.{start}
use Rattle.model.specs.Admission.{sheet_record}
use Rattle.model.specs.Calls.{Row, refusal, all_zero}
use Rattle.model.specs.Writes.{WriteResult, written, write_unless, wrote}

-- "the old four": mark, working depth, return depth, program byte
abbrev pub old_record : ℕ
old_record = 4

-- ---- a record

abbrev pub mark_byte : List ℕ → ℕ
mark_byte entry = get_or entry 0 0

abbrev pub routine_in : List ℕ → ℕ
routine_in entry = number (get_or entry 4 0 ∷ get_or entry 5 0 ∷ [])

-- "a mark above 1, an unmarked record not 0 but for its program byte"
unfoldable pub wrong_old : List ℕ → Bool
wrong_old entry =
    ltb 1 (mark_byte entry) || (eqb (mark_byte entry) 0 && not (all_zero (take 3 entry ++ drop 4 entry)))

-- and "a marked routine 0 or last pair not 0"
unfoldable pub wrong_new : List ℕ → Bool
wrong_new entry =
    wrong_old entry || (eqb (mark_byte entry) 1 && (eqb (routine_in entry) 0 || not (all_zero (drop 6 entry))))

-- "one that can't go back": it is marked with another routine than 0100
unfoldable pub stays_new : List ℕ → Bool
stays_new entry = eqb (mark_byte entry) 1 && not (eqb (routine_in entry) start)

-- "to the new form with routine 0100"; a record that is not marked has routine 0
unfoldable pub widened : List ℕ → List ℕ
widened entry = entry ++ cond (eqb (mark_byte entry) 1) (word 2 start) (zeros 2) ++ zeros 2

-- "and back"
unfoldable pub narrowed : List ℕ → List ℕ
narrowed entry = take old_record entry

-- ---- a sheet, or another file of records of one size

-- n pieces of so many bytes, from the start on
unfoldable pub pieces : ℕ → ℕ → List ℕ → List (List ℕ)
pieces size zero bytes = []
pieces size (suc n) bytes = take size bytes ∷ pieces size n (drop size bytes)

-- the whole records of a file
unfoldable pub records_of : ℕ → List ℕ → List (List ℕ)
records_of size sheet = pieces size (length sheet / size) sheet

-- some record has this
unfoldable pub some_record : (List ℕ → Bool) → List (List ℕ) → Bool
some_record test [] = false
some_record test (entry ∷ entries) = test entry || some_record test entries

-- each record moved, one after the other
unfoldable pub each_record : (List ℕ → List ℕ) → List (List ℕ) → List ℕ
each_record move [] = []
each_record move (entry ∷ entries) = move entry ++ each_record move entries

-- "a part record", or a wrong one
unfoldable pub wrong_sheet : ℕ → (List ℕ → Bool) → List ℕ → Bool
wrong_sheet size wrong sheet = not (eqb (length sheet % size) 0) || some_record wrong (records_of size sheet)

unfoldable pub widened_sheet : List ℕ → List ℕ
widened_sheet old = each_record widened (records_of old_record old)

unfoldable pub narrowed_sheet : List ℕ → List ℕ
narrowed_sheet new = each_record narrowed (records_of sheet_record new)

-- ---- the two calls: "18 .., then 19 for one that can't go back, then 13 for a short output"

abbrev pub short_for : List ℕ → List ℕ → Bool
short_for bytes output = ltb (length output) (length bytes)

unfoldable pub widen_rows : List ℕ → List ℕ → List Row
widen_rows old output =
    (18, wrong_sheet old_record wrong_old old)
    ∷ (13, short_for (widened_sheet old) output)
    ∷ []

unfoldable pub widen_call : List ℕ → List ℕ → WriteResult
widen_call old output = write_unless (refusal (widen_rows old output)) (widened_sheet old) output

unfoldable pub narrow_rows : List ℕ → List ℕ → List Row
narrow_rows new output =
    (18, wrong_sheet sheet_record wrong_new new)
    ∷ (19, some_record stays_new (records_of sheet_record new))
    ∷ (13, short_for (narrowed_sheet new) output)
    ∷ []

unfoldable pub narrow_call : List ℕ → List ℕ → WriteResult
narrow_call new output = write_unless (refusal (narrow_rows new output)) (narrowed_sheet new) output

-- ---- there and back

-- what a move that is not refused wrote, moved back into any output with room: no refusal, and the sheet as it was
pub record ThereAndBack : Type 0 where
  pub old : (old output room : List ℕ) → (widen_call old output).number ≡ 0 → length old ≤ length room
      → narrow_call (wrote (widen_call old output)) room ≡ written old room
  pub new : (new output room : List ℕ) → Bytes new → (narrow_call new output).number ≡ 0 → length new ≤ length room
      → widen_call (wrote (narrow_call new output)) room ≡ written new room
