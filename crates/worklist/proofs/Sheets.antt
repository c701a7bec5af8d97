-- Laws of the bytes of a sheet, and of one more mark in it. Assumes nothing.
use mathlib.Core.Path.{◌≡◌, refl, sym, ap, ◌∙◌}
use mathlib.Core.List.{List, [], ◌∷◌, ◌++◌}
use Prim.Native.Nat.{ℕ, zero, suc, ◌+◌, ◌*◌, ◌/◌, ◌%◌, ◌<◌}
use native.Mathlib.Omega.{arith}
use lib.ListN.{length, get_or, set}
use Rattle.model.specs.Admission.{Mark, count_marked, sheet_record, record_of, sheet_of}
use Rattle.model.specs.Admission.Mark.{unmarked, marked}
use Rattle.worklist.specs.Worklist.{with_mark}
use Rattle.model.proofs.Reached.{count_most}
use Rattle.model.proofs.Rules.{not_both}
use Rattle.model.proofs.Sheet.{record_byte_lem, record_index}

-- byte k of record i
pub byte_of_record : (marks : List Mark) (program : List ℕ) (i k : ℕ) → length marks ≡ length program → i < length program
    → k < sheet_record
    → get_or (sheet_of marks program) (sheet_record * i + k) 0 ≡ get_or (record_of (get_or marks i unmarked) (get_or program i 0)) k 0
byte_of_record marks program i k l h g =
    sym (record_byte_lem (sheet_of marks program) i k g) ∙ ap (λ entry. get_or entry k 0) (record_index marks program i l h)

-- the mark of a record, from its bytes
pub mark_unmarked : (x : Mark) (byte : ℕ) → get_or (record_of x byte) 0 0 ≡ 0 → x ≡ unmarked
mark_unmarked unmarked byte e = refl
mark_unmarked (marked w r q) byte e = absurd (omega arith)

pub mark_marked : (x : Mark) (byte : ℕ) → (get_or (record_of x byte) 0 0 ≡ 0 → ⊥)
    → x ≡ marked (get_or (record_of x byte) 1 0) (get_or (record_of x byte) 2 0) (get_or (record_of x byte) 4 0 * 256 + get_or (record_of x byte) 5 0)
mark_marked unmarked byte h = absurd (h refl)
mark_marked (marked w r q) byte h = let e : q ≡ q / 256 * 256 + q % 256 = omega arith in ap (marked w r) e

-- after a record of eight bytes
abbrev past : ℕ → ℕ
past n = suc (suc (suc (suc (suc (suc (suc (suc n)))))))

-- it is the sheet of these marks
pub sheet-set : (marks : List Mark) (program : List ℕ) (i w r q : ℕ) → length marks ≡ length program → i < length program
    → with_mark (sheet_of marks program) i w r q ≡ sheet_of (set marks i (marked w r q)) program
unfolding sheet_of
sheet-set [] program i w r q l h = absurd (omega arith)
sheet-set (x ∷ marks) [] i w r q l h = absurd (omega arith)
sheet-set (unmarked ∷ marks) (byte ∷ program) zero w r q l h = refl
sheet-set (marked v s p ∷ marks) (byte ∷ program) zero w r q l h = refl
sheet-set (x ∷ marks) (byte ∷ program) (suc i) w r q l h = by x (sheet-set marks program i w r q (omega arith) (omega arith))
  where
    rest : List ℕ
    rest = sheet_of marks program

    a : sheet_record * suc i ≡ past (sheet_record * i)
    a = omega arith

    b : (k : ℕ) → sheet_record * suc i + k ≡ past (sheet_record * i + k)
    b k = omega arith

    by : (x : Mark) → with_mark rest i w r q ≡ sheet_of (set marks i (marked w r q)) program
        → with_mark (record_of x byte ++ rest) (suc i) w r q ≡ record_of x byte ++ sheet_of (set marks i (marked w r q)) program
    by unmarked ih = rw (b 1, b 2, b 4, b 5, a) (ap (λ l. record_of unmarked byte ++ l) ih)
    by (marked v s p) ih = rw (b 1, b 2, b 4, b 5, a) (ap (λ l. record_of (marked v s p) byte ++ l) ih)

-- one more mark counts one more
pub count_set : (marks : List Mark) (i w r q : ℕ) → i < length marks → get_or marks i unmarked ≡ unmarked
    → count_marked (set marks i (marked w r q)) ≡ count_marked marks + 1
unfolding count_marked
count_set [] i w r q h e = absurd (omega arith)
count_set (unmarked ∷ marks) zero w r q h e = omega arith
count_set (marked v s p ∷ marks) zero w r q h e = not_both (sym e)
count_set (unmarked ∷ marks) (suc i) w r q h e = count_set marks i w r q (omega arith) e
count_set (marked v s p ∷ marks) (suc i) w r q h e = omega (arith, count_set marks i w r q (omega arith) e)

-- where a mark is missing there is room for one more
pub count_room : (marks : List Mark) (i : ℕ) → i < length marks → get_or marks i unmarked ≡ unmarked → count_marked marks < length marks
unfolding count_marked
count_room [] i h e = absurd (omega arith)
count_room (unmarked ∷ marks) i h e = omega (arith, count_most marks)
count_room (marked w r q ∷ marks) zero h e = not_both (sym e)
count_room (marked w r q ∷ marks) (suc i) h e = omega (arith, count_room marks i (omega arith) e)
