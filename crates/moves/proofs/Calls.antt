-- Laws of the two calls: one for each number that they give, and what they write. Assumes nothing.
use mathlib.Core.Path.{◌≡◌, refl, sym, ap, ◌∙◌}
use mathlib.Core.Bool.{Bool, true, false, not, ◌||◌}
use mathlib.Core.List.{List, [], ◌++◌}
use Prim.Native.Nat.{ℕ, ◌*◌, ◌/◌, ◌%◌, ◌≤◌, ◌<◌}
use native.Mathlib.Omega.{arith}
use lib.Dec.{eqb}
use lib.ListN.{length, drop}
use borrow.Author.Tests.{ne_eqb, lt-ltb}
use Rattle.model.specs.Writes.{unwritten, write_unless}
use Rattle.model.specs.Admission.{sheet_record}
use Rattle.model.specs.Moves.{old_record, wrong_old, wrong_new, stays_new, records_of, some_record, wrong_sheet, widened_sheet, narrowed_sheet, widen_rows, widen_call, narrow_rows, narrow_call}
use Rattle.model.proofs.Numbers.{passed_over, given_by}
use Rattle.model.proofs.Moves.{right_sheet, widen_done, narrow_done, widened-length, narrowed-length}

-- ---- a sheet that is wrong

module _ (size : ℕ) (wrong : List ℕ → Bool) (sheet : List ℕ) where
  part_wrong : (length sheet % size ≡ 0 → ⊥) → wrong_sheet size wrong sheet ≡ true
  unfolding wrong_sheet
  part_wrong h = rw (ne_eqb (length sheet % size) 0 h)

  or_true : (a : Bool) → (a || true) ≡ true
  or_true true = refl
  or_true false = refl

  record_wrong : some_record wrong (records_of size sheet) ≡ true → wrong_sheet size wrong sheet ≡ true
  unfolding wrong_sheet
  record_wrong e = rw e (or_true (not (eqb (length sheet % size) 0)))

-- ---- to the new form

pub widen_fits : (old : List ℕ) (n : ℕ) → length old % old_record ≡ 0 → length old ≤ n / 2 → length (widened_sheet old) ≤ n
widen_fits old n whole h = omega (arith, widened-length old whole)

module _ (old output : List ℕ) where
  number_18 : wrong_sheet old_record wrong_old old ≡ true → unwritten 18 output ≡ widen_call old output
  unfolding widen_call widen_rows write_unless
  number_18 e = sym (ap (λ n. write_unless n (widened_sheet old) output) (given_by 18 _ _ e))

  pub widen_part : (length old % old_record ≡ 0 → ⊥) → unwritten 18 output ≡ widen_call old output
  widen_part h = number_18 (part_wrong old_record wrong_old old h)

  module _ (b : Bool) (e : b ≡ some_record wrong_old (records_of old_record old)) where
    pub widen_wrong : b ≡ true → unwritten 18 output ≡ widen_call old output
    widen_wrong t = number_18 (record_wrong old_record wrong_old old (sym e ∙ t))

    module _ (f : b ≡ false) (whole : length old % old_record ≡ 0) where
      right : wrong_sheet old_record wrong_old old ≡ false
      right = right_sheet old_record wrong_old old whole (sym e ∙ f)

      pub widen_short : length output / 2 < length old → unwritten 13 output ≡ widen_call old output
      unfolding widen_call widen_rows write_unless
      widen_short h =
          let l : length output < length (widened_sheet old) = omega (arith, widened-length old whole) in
          sym (ap (λ n. write_unless n (widened_sheet old) output) (passed_over 18 _ _ right ∙ given_by 13 _ [] (lt-ltb _ _ l)))

      pub widen_written : length old ≤ length output / 2 → (after : List ℕ)
          → after ≡ widened_sheet old ++ drop (length (widened_sheet old)) output
          → record { number = 0; length = length old * 2; output = after } ≡ widen_call old output
      widen_written h after g = rw (← widened-length old whole, g) (sym (widen_done old output right (widen_fits old (length output) whole h)))

-- ---- to the old form

pub narrow_fits : (new : List ℕ) (n : ℕ) → length new % sheet_record ≡ 0 → length new / 2 ≤ n → length (narrowed_sheet new) ≤ n
narrow_fits new n whole h = omega (arith, narrowed-length new whole)

module _ (new output : List ℕ) where
  number_18_back : wrong_sheet sheet_record wrong_new new ≡ true → unwritten 18 output ≡ narrow_call new output
  unfolding narrow_call narrow_rows write_unless
  number_18_back e = sym (ap (λ n. write_unless n (narrowed_sheet new) output) (given_by 18 _ _ e))

  pub narrow_part : (length new % sheet_record ≡ 0 → ⊥) → unwritten 18 output ≡ narrow_call new output
  narrow_part h = number_18_back (part_wrong sheet_record wrong_new new h)

  module _ (b : Bool) (e : b ≡ some_record wrong_new (records_of sheet_record new)) where
    pub narrow_wrong : b ≡ true → unwritten 18 output ≡ narrow_call new output
    narrow_wrong t = number_18_back (record_wrong sheet_record wrong_new new (sym e ∙ t))

    module _ (f : b ≡ false) (whole : length new % sheet_record ≡ 0) (s : Bool) (es : s ≡ some_record stays_new (records_of sheet_record new)) where
      right_new : wrong_sheet sheet_record wrong_new new ≡ false
      right_new = right_sheet sheet_record wrong_new new whole (sym e ∙ f)

      pub narrow_stays : s ≡ true → unwritten 19 output ≡ narrow_call new output
      unfolding narrow_call narrow_rows write_unless
      narrow_stays t = sym (ap (λ n. write_unless n (narrowed_sheet new) output) (passed_over 18 _ _ right_new ∙ given_by 19 _ _ (sym es ∙ t)))

      module _ (fs : s ≡ false) where
        pub narrow_short : length output < length new / 2 → unwritten 13 output ≡ narrow_call new output
        unfolding narrow_call narrow_rows write_unless
        narrow_short h =
            let l : length output < length (narrowed_sheet new) = omega (arith, narrowed-length new whole) in
            sym (ap (λ n. write_unless n (narrowed_sheet new) output) (passed_over 18 _ _ right_new ∙ passed_over 19 _ _ (sym es ∙ fs) ∙ given_by 13 _ [] (lt-ltb _ _ l)))

        pub narrow_written : length new / 2 ≤ length output → (after : List ℕ)
            → after ≡ narrowed_sheet new ++ drop (length (narrowed_sheet new)) output
            → record { number = 0; length = length new / 2; output = after } ≡ narrow_call new output
        narrow_written h after g = rw (← narrowed-length new whole, g) (sym (narrow_done new output right_new (sym es ∙ fs) (narrow_fits new (length output) whole h)))
