-- The records of a sheet are those of the marks that it was written from. Assumes nothing.
use mathlib.Core.Path.{◌≡◌, refl, ap, ◌∙◌}
use mathlib.Core.Bool.{Bool, true, false, cond}
use mathlib.Core.List.{List, [], ◌∷◌, ◌++◌}
use Prim.Native.Nat.{ℕ, zero, suc, ◌+◌, ◌-◌, ◌*◌, ◌/◌, ◌%◌, ◌<◌}
use native.Mathlib.Decide.{dec_lt}
use native.Mathlib.Omega.{arith}
use lib.Dec.{ltb}
use lib.ListN.{length, get_or, take, drop, length-append, drop_of_length-le, get_or-eq_default}
use lib.Seq.{take_at, drop-append-add, get_or-take, get_or-drop}
use borrow.Author.Tests.{ltb-false, le-ltb}
use Rattle.model.specs.Machine.{start}
use Rattle.model.specs.Admission.{Mark, byte_at, Within, mark_at, sheet_record, record_of, sheet_of, record_at, mark_of, mark_in}
use Rattle.model.specs.Admission.Mark.{unmarked, marked}

length_record : (x : Mark) (byte : ℕ) → length (record_of x byte) ≡ sheet_record
length_record unmarked byte = refl
length_record (marked w r q) byte = refl

pub length-sheet : (marks : List Mark) (program : List ℕ) → length marks ≡ length program
    → length (sheet_of marks program) ≡ sheet_record * length program
unfolding sheet_of
length-sheet [] [] l = refl
length-sheet [] (byte ∷ program) l = absurd (omega arith)
length-sheet (x ∷ marks) [] l = absurd (omega arith)
length-sheet (x ∷ marks) (byte ∷ program) l =
    simp (length-append, length_record, length-sheet marks program (omega arith)) (omega arith)

-- byte k of record i
pub record_byte_lem : (sheet : List ℕ) (i k : ℕ) → k < sheet_record
    → get_or (take sheet_record (drop (sheet_record * i) sheet)) k 0 ≡ get_or sheet (sheet_record * i + k) 0
record_byte_lem sheet i k h = get_or-take sheet_record (drop (sheet_record * i) sheet) k 0 h ∙ get_or-drop (sheet_record * i) sheet k 0

-- the first record, and those after it
first_record : (x : Mark) (byte : ℕ) (rest : List ℕ) → take sheet_record (record_of x byte ++ rest) ≡ record_of x byte
first_record x byte rest = take_at (record_of x byte) rest sheet_record (length_record x byte)

next_record : (x : Mark) (byte i : ℕ) (rest : List ℕ) → drop (sheet_record * suc i) (record_of x byte ++ rest) ≡ drop (sheet_record * i) rest
next_record x byte i rest =
    let e : sheet_record * suc i ≡ length (record_of x byte) + sheet_record * i = omega (arith, length_record x byte) in
    rw e (drop-append-add (record_of x byte) rest (sheet_record * i))

pub record_index : (marks : List Mark) (program : List ℕ) (i : ℕ) → length marks ≡ length program → i < length program
    → take sheet_record (drop (sheet_record * i) (sheet_of marks program)) ≡ record_of (get_or marks i unmarked) (get_or program i 0)
unfolding sheet_of
record_index [] program i l h = absurd (omega arith)
record_index (x ∷ marks) [] i l h = absurd (omega arith)
record_index (x ∷ marks) (byte ∷ program) zero l h = first_record x byte (sheet_of marks program)
record_index (x ∷ marks) (byte ∷ program) (suc i) l h =
    ap (take sheet_record) (next_record x byte i (sheet_of marks program)) ∙ record_index marks program i (omega arith) (omega arith)

-- "one .. record per program byte: mark (0 or 1), working depth, return depth, the program byte", "the routine (two bytes), two zeros"
pub record_is : (marks : List Mark) (program : List ℕ) (at : ℕ) → length marks ≡ length program → Within program at
    → record_at (sheet_of marks program) at ≡ record_of (mark_at marks at) (byte_at program at)
unfolding mark_at byte_at
record_is marks program at l h =
    rw (le-ltb at start h.0) (record_index marks program (at - start) l (omega (arith, h.0, h.1)))

mark_of_lem : (x : Mark) (byte : ℕ) → mark_of (record_of x byte) ≡ x
mark_of_lem unmarked byte = refl
mark_of_lem (marked w r q) byte = let e : q / 256 * 256 + q % 256 ≡ q = omega arith in ap (marked w r) e

-- the marks read from the sheet
pub mark_in_lem : (marks : List Mark) (program : List ℕ) → length marks ≡ length program → (at : ℕ)
    → mark_in (sheet_of marks program) at ≡ mark_at marks at
unfolding mark_in mark_at
mark_in_lem marks program l at = by (ltb at start) refl (dec_lt at (start + length program))
  where
    sheet : List ℕ
    sheet = sheet_of marks program

    by : (t : Bool) → ltb at start ≡ t → Dec (at < start + length program)
        → cond t unmarked (mark_of (record_at sheet at)) ≡ cond t unmarked (get_or marks (at - start) unmarked)
    by true e d = refl
    by false e (yes h) =
        let i = ltb-false at start e in
        ap mark_of (record_index marks program (at - start) l (omega arith)) ∙ mark_of_lem (get_or marks (at - start) unmarked) _
    by false e (no h) =
        let n : record_at sheet at ≡ [] = rw (drop_of_length-le sheet {i = sheet_record * (at - start)} (omega (arith, length-sheet marks program l))) in
        rw (n, get_or-eq_default marks unmarked {n = at - start} (omega arith))
