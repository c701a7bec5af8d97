-- The number of an install and the sheet that it leaves; then what it replies. Assumes nothing.
use mathlib.Core.Path.{◌≡◌, refl, sym, ap, ◌∙◌}
use mathlib.Core.Bool.{Bool, true, false}
use mathlib.Core.List.{List, ◌∷◌}
use Prim.Native.Nat.{ℕ, zero, suc, ◌≤◌}
use native.Mathlib.Omega.{arith}
use borrow.Author.Tests.{ne_eqb}
use Rattle.model.specs.Machine.{State}
use Rattle.std.specs.Prelude.{Result, Ok, Err}
use Rattle.model.specs.Run.{reply}
use Rattle.model.specs.Run.Answer.{Refused, Loaded}
use Rattle.model.specs.Calls.{Row, refusal, buffer_rows, number_of, load, load_call, admit_rows, admit_by, admit_call, AdmitResult, install_rows, install_by, install_call}
use Rattle.model.specs.Replies.{of_admit}
use Rattle.model.specs.Refusals.{refusal_number, refused_by}
use Rattle.model.specs.declared.Refusal.{Refusal}
use Rattle.model.specs.declared.Machine.{Machine}
use Rattle.model.proofs.Numbers as numbers
use Rattle.model.proofs.Installs.{admit_number, no_number}
use Rattle.refusals.proofs.Refusals.{some_number, by_buffers, by_rows}

-- ---- a buffer of wrong length: the sheet stays

-- no number above m
most : (m k : ℕ) (t : Bool) (rows : List Row) → k ≤ m → refusal rows ≤ m → refusal ((k, t) ∷ rows) ≤ m
unfolding refusal
most m k true rows h g = h
most m k false rows h g = g

buffers_most : (s : State) → refusal (buffer_rows s) ≤ 4
unfolding buffer_rows
buffers_most s =
    most 4 1 _ _ (omega arith) (most 4 2 _ _ (omega arith) (most 4 3 _ _ (omega arith) (most 4 4 _ _ (omega arith) (omega (arith, numbers.no_rows)))))

sheet_stays : (n : ℕ) (program sheet : List ℕ) → (n ≡ 0 → ⊥) → n ≤ 4 → sheet ≡ (admit_by n program sheet).sheet
unfolding admit_by
sheet_stays zero program sheet h l = absurd (h refl)
sheet_stays (suc n) program sheet h l = rw (ne_eqb (suc n) 11 (λ e. absurd (omega arith)))

-- a record: the numbers do not hang on it
pub some_record_lem : Machine
some_record_lem = record { pc = 0; wp = 0; rp = 0; wp_high = 0; rp_high = 0 }

module _ (s : State) (refused : Refusal) (e : refusal_number refused ≡ refusal (buffer_rows s)) where
  pub wrong_number : (program sheet : List ℕ) → refusal_number refused ≡ refusal (install_rows program sheet s)
  unfolding install_rows
  wrong_number program sheet = by_buffers s refused (admit_rows program sheet) e

  pub wrong_sheet_lem : (program sheet : List ℕ) → sheet ≡ (admit_by (refusal_number refused) program sheet).sheet
  wrong_sheet_lem program sheet =
      let l : refusal_number refused ≤ 4 = rw e (buffers_most s) in
      sheet_stays (refusal_number refused) program sheet (some_number refused) l

-- ---- else the number and the sheet are those of admission

parts : (after : List ℕ) (r : Result (Unit {0}) Refusal) → (number_of (of_admit after r).answer ≡ refused_by r) × ((of_admit after r).sheet ≡ after)
parts after (Ok x) = (refl, refl)
parts after (Err refused) = (refl, refl)

module _ (program sheet : List ℕ) (r : Result (Unit {0}) Refusal) (after : List ℕ) (e : of_admit after r ≡ admit_call program sheet) where
  number_is : refusal (admit_rows program sheet) ≡ refused_by r
  unfolding admit_call
  number_is =
      sym (admit_number (refusal (admit_rows program sheet)) program sheet)
      ∙ sym (ap (λ (a : AdmitResult). number_of a.answer) e)
      ∙ (parts after r).0

  pub admit_sheet : after ≡ (admit_by (refused_by r) program sheet).sheet
  unfolding admit_call
  admit_sheet = rw (← number_is) (sym (parts after r).1 ∙ ap (λ (a : AdmitResult). a.sheet) e)

  pub install-number : (s : State) → 0 ≡ refusal (buffer_rows s) → refused_by r ≡ refusal (install_rows program sheet s)
  unfolding install_rows
  install-number s f = by_rows s f (admit_rows program sheet) (refused_by r) number_is

-- ---- the reply

module _ (program sheet : List ℕ) (s : State) {n : ℕ} {after : List ℕ} (e : n ≡ refusal (install_rows program sheet s)) (f : after ≡ (admit_by n program sheet).sheet) where
  pub not_in : (n ≡ 0 → ⊥) → record { reply = reply (Refused n) 0 0 s; sheet = after } ≡ install_call program sheet s
  unfolding install_call install_by
  not_in h = rw (← e, f, ← numbers.refused n s (load_call program s) refl h)

  pub goes_in : n ≡ 0 → {t : State} → t ≡ load program → record { reply = reply Loaded 0 0 t; sheet = after } ≡ install_call program sheet s
  unfolding install_call install_by
  goes_in z {t} h =
      let i = no_number program sheet s (numbers.none _ e z) in
      let g : reply Loaded 0 0 t ≡ (install_call program sheet s).reply = rw (h, i.loads) in
      rw (g, f, e)
