-- Admission is exact, and its sheet the smallest. Assumes nothing.
use mathlib.Core.Path.{◌≡◌, refl, sym, ap, ◌∙◌}
use mathlib.Core.Bool.{Bool, true, false, not, true≢false}
use mathlib.Core.Logic.{◌↔◌}
use mathlib.Core.List.{List, [], ◌∷◌}
use Prim.Native.Nat.{ℕ, zero, suc, ◌+◌, ◌-◌, ◌*◌, ◌/◌, ◌%◌, ◌≤◌, ◌<◌}
use native.Mathlib.Omega.{arith}
use lib.Dec.{T, eqb, not_T}
use lib.ListN.{length, get_or}
use lib.Seq.{ext_get_or}
use borrow.Author.Tests.{eqb-false, eq-eqb, ne_eqb, ltb-false, lt-ltb, le-ltb}
use Rattle.model.specs.Run.Answer.{Admitted}
use Rattle.model.specs.Admission.{Mark, admit_most, byte_at, Within, Way, mark_at, reached, admitted, sheet_record, record_of, sheet_of, record_at, mark_in, Smallest}
use Rattle.model.specs.Admission.Mark.{unmarked, marked}
use Rattle.model.specs.Machine.{start}
use Rattle.model.specs.Calls.{refusal, admit_rows, admit_by, admit_call}
use Rattle.model.specs.Exactness.{Proper, Exact}
use Rattle.model.proofs.Tests.{is_true}
use Rattle.model.proofs.Rules.{parts, assigns_is}
use Rattle.model.proofs.Reached.{reached-least, reached_only, along, assigned_closed, admitted_exactly}
use Rattle.model.proofs.Sheet.{length-sheet, record_byte_lem, record_is, mark_in_lem}
use Rattle.model.proofs.Numbers.{no_rows, passed_over, given_by, none_says, right}

pub T_of : (b : Bool) → not b ≡ false → T b
T_of true e = tt
T_of false e = absurd (true≢false e)

-- ---- Admitted: 1 to 4,096 bytes, with an assignment, and the sheet is that of what is reached

pub record Passed (program sheet : List ℕ) : Type 0 where
  pub some : length program ≡ 0 → ⊥
  pub most : length program ≤ admit_most
  pub fine : T (admitted program)
  pub written : (admit_call program sheet).sheet ≡ sheet_of (reached program) program

no_number : (n : ℕ) (program sheet : List ℕ) → (admit_by n program sheet).answer ≡ Admitted → n ≡ 0
unfolding admit_by
no_number zero program sheet e = refl
no_number (suc n) program sheet e = let z : ◌≡◌ {A = ℕ} 0 1 = cc in absurd (omega arith)

pub passes : (program sheet : List ℕ) → (admit_call program sheet).answer ≡ Admitted → Passed program sheet
unfolding admit_call admit_rows admit_by
passes program sheet t =
    let e = no_number (refusal (admit_rows program sheet)) program sheet t in
    let a = none_says 4 _ _ e in
    let b = none_says 8 _ _ a.1 in
    let c = none_says 9 _ _ b.1 in
    let d = none_says 10 _ _ c.1 in
    record { some = eqb-false _ _ a.0; most = ltb-false _ _ b.0; fine = T_of (admitted program) d.0; written = rw (e, admit_by) }

pub smallest : (program sheet : List ℕ) → Passed program sheet → Smallest program (admit_call program sheet).sheet
unfolding admitted
smallest program sheet ok =
    let marks = reached program in
    let l = (parts program marks ok.fine).0 in
    let e : mark_in (sheet_of marks program) ≡ mark_at marks = λ i at. mark_in_lem marks program l at i in
    rw ok.written
    record {
      size = length-sheet marks program l;
      records = λ at h. rw (mark_in_lem marks program l at) (record_is marks program at l h);
      assigned = rw e (assigns_is program marks ok.fine);
      least = λ f a at w r q h. reached-least program f a at w r q (sym (mark_in_lem marks program l at) ∙ h);
    }

-- ---- "just the addresses reached from 0100"

pub marked_exactly : (program sheet : List ℕ) → Passed program sheet
    → (at w r q : ℕ) → (mark_in (admit_call program sheet).sheet at ≡ marked w r q) ↔ Way program at w r q
unfolding admitted
marked_exactly program sheet ok at w r q = (
  λ h. reached_only program at w r q (sym (mark_in_lem (reached program) program l at) ∙ rw ok.written at h),
  λ way. along program _ (assigned_closed program _ (smallest program sheet ok).assigned) way,
)
  where
    l : length (reached program) ≡ length program
    l = (parts program (reached program) ok.fine).0

-- ---- the number of each program and sheet

some : (program : List ℕ) → 1 ≤ length program → eqb (length program) 0 ≡ false
some program l = ne_eqb (length program) 0 (λ z. omega arith)

proper_number : (program sheet : List ℕ) → Proper program sheet → refusal (admit_rows program sheet) ≡ refusal ((11, not (admitted program)) ∷ [])
unfolding admit_rows
proper_number program sheet h =
    passed_over 5 _ _ (some program h.some)
    ∙ passed_over 9 _ _ (le-ltb admit_most (length program) h.most)
    ∙ passed_over 10 _ _ (right _ _ h.size)

-- the answer and the sheet, by the number
numbered : (program sheet : List ℕ) {n : ℕ} → refusal (admit_rows program sheet) ≡ n → admit_call program sheet ≡ admit_by n program sheet
unfolding admit_call
numbered program sheet e = ap (λ n. admit_by n program sheet) e

pub exact : Exact
unfolding admit_by admit_rows
exact =
    record {
      admitted = λ program sheet h. (
        λ t. (admitted_exactly program).0 (passes program sheet t).fine,
        λ a.
            let e = is_true (admitted program) ((admitted_exactly program).1 a) in
            rw (numbered program sheet (proper_number program sheet h ∙ passed_over 11 _ [] (ap not e) ∙ no_rows)),
      );
      written = λ program sheet t. smallest program sheet (passes program sheet t);
      just = λ program sheet t. marked_exactly program sheet (passes program sheet t);
      none = λ program sheet h none.
          let e = is_true (not (admitted program)) (not_T (admitted program) (λ t. none ((admitted_exactly program).0 t))) in
          numbered program sheet (proper_number program sheet h ∙ given_by 11 _ [] e);
      empty = λ program sheet h. numbered program sheet (given_by 5 _ _ (eq-eqb (length program) 0 h));
      long = λ program sheet h.
          numbered program sheet (passed_over 5 _ _ (some program (omega arith)) ∙ given_by 9 _ _ (lt-ltb admit_most (length program) h));
      unfit = λ program sheet l h n.
          numbered program sheet
          (passed_over 5 _ _ (some program l)
          ∙ passed_over 9 _ _ (le-ltb admit_most (length program) h)
          ∙ given_by 10 _ _ (ap not (ne_eqb _ _ n)));
    }

-- ---- "the smallest one": there are no two of them

module _ (program a b : List ℕ) (s : Smallest program a) (t : Smallest program b) where
  same_marks : (at : ℕ) → mark_in a at ≡ mark_in b at
  same_marks at = by (mark_in a at) (mark_in b at) refl refl
    where
      by : (x y : Mark) → mark_in a at ≡ x → mark_in b at ≡ y → x ≡ y
      by unmarked unmarked e f = refl
      by unmarked (marked w r q) e f = sym e ∙ t.least (mark_in a) s.assigned at w r q f
      by (marked w r q) y e f = sym (s.least (mark_in b) t.assigned at w r q e) ∙ f

  same_record : (i : ℕ) → i < length program → record_at a (start + i) ≡ record_at b (start + i)
  same_record i h =
      let in-program : Within program (start + i) = (omega arith, omega arith) in
      s.records (start + i) in-program
      ∙ ap (λ x. record_of x (byte_at program (start + i))) (same_marks (start + i))
      ∙ sym (t.records (start + i) in-program)

  same_byte : (j : ℕ) → j < length a → get_or a j 0 ≡ get_or b j 0
  same_byte j h =
      let i = j / sheet_record in
      let k = j % sheet_record in
      let e : start + i - start ≡ i = omega arith in
      let f : sheet_record * i + k ≡ j = omega arith in
      let g = rw e at (same_record i (omega (arith, s.size))) in
      rw f at (sym (record_byte_lem a i k (omega arith)) ∙ ap (λ entry. get_or entry k 0) g ∙ record_byte_lem b i k (omega arith))

  pub smallest_one : a ≡ b
  smallest_one = ext_get_or 0 a b (s.size ∙ sym t.size) same_byte
