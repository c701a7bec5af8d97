-- Laws of the numbered replies: one for each number that a call can give. Assumes nothing.
use mathlib.Core.Path.{◌≡◌, refl, sym, ap, ◌∙◌}
use mathlib.Core.Bool.{Bool, true, false, not}
use mathlib.Core.List.{List, [], ◌∷◌, ◌++◌}
use Prim.Native.Nat.{ℕ, ◌≤◌, ◌<◌}
use native.Mathlib.Omega.{arith}
use lib.Dec.{eqb}
use lib.ListN.{length}
use borrow.Author.Tests.{eq-eqb, ne_eqb, lt-ltb, le-ltb}
use Rattle.model.specs.Machine.{memory_size, page_size, stack_size, State}
use Rattle.model.specs.Calls.{Row, refusal, buffer_rows, load_most, load_rows, event_rows, frame_size, frame_most, well_formed, frame_rows}
use Rattle.model.specs.Refusals.{refusal_number}
use Rattle.model.specs.declared.Refusal.{Refusal}
use Rattle.model.proofs.Numbers.{no_rows, passed_over, given_by, right, buffers_right, buffers_passed}

wrong : (a b : ℕ) → (a ≡ b → ⊥) → not (eqb a b) ≡ true
wrong a b h = ap not (ne_eqb a b h)

-- ---- 1 to 4

module _ (s : State) where
  pub none_wrong : length s.memory ≡ memory_size → length s.devices ≡ page_size → length s.work.bytes ≡ stack_size
      → length s.ret.bytes ≡ stack_size → 0 ≡ refusal (buffer_rows s)
  unfolding buffer_rows
  none_wrong a b c d =
      sym (buffers_passed s [] (record { memory = a; devices = b; work = c; ret = d }) ∙ no_rows)

  pub memory_wrong : (length s.memory ≡ memory_size → ⊥) → 1 ≡ refusal (buffer_rows s)
  unfolding buffer_rows
  memory_wrong a = sym (given_by 1 _ _ (wrong _ _ a))

  pub devices_wrong : length s.memory ≡ memory_size → (length s.devices ≡ page_size → ⊥) → 2 ≡ refusal (buffer_rows s)
  unfolding buffer_rows
  devices_wrong a b = sym (passed_over 1 _ _ (right _ _ a) ∙ given_by 2 _ _ (wrong _ _ b))

  pub work_wrong : length s.memory ≡ memory_size → length s.devices ≡ page_size → (length s.work.bytes ≡ stack_size → ⊥)
      → 3 ≡ refusal (buffer_rows s)
  unfolding buffer_rows
  work_wrong a b c = sym (passed_over 1 _ _ (right _ _ a) ∙ passed_over 2 _ _ (right _ _ b) ∙ given_by 3 _ _ (wrong _ _ c))

  pub ret_wrong : length s.memory ≡ memory_size → length s.devices ≡ page_size → length s.work.bytes ≡ stack_size
      → (length s.ret.bytes ≡ stack_size → ⊥) → 4 ≡ refusal (buffer_rows s)
  unfolding buffer_rows
  ret_wrong a b c d =
      sym (passed_over 1 _ _ (right _ _ a) ∙ passed_over 2 _ _ (right _ _ b) ∙ passed_over 3 _ _ (right _ _ c) ∙ given_by 4 _ _ (wrong _ _ d))

-- ---- then the other numbers of a call

-- the first number that is given stays, whatever rows follow
stays : (rows more : List Row) (n : ℕ) → (n ≡ 0 → ⊥) → n ≡ refusal rows → n ≡ refusal (rows ++ more)
stays [] more n h e = absurd (h (e ∙ no_rows))
stays ((k, true) ∷ rows) more n h e = e ∙ given_by k true rows refl ∙ sym (given_by k true (rows ++ more) refl)
stays ((k, false) ∷ rows) more n h e =
    stays rows more n h (e ∙ passed_over k false rows refl) ∙ sym (passed_over k false (rows ++ more) refl)

pub some_number : (refusal : Refusal) → refusal_number refusal ≡ 0 → ⊥
some_number Refusal.MemoryLength h = absurd (omega arith)
some_number Refusal.DevicesLength h = absurd (omega arith)
some_number Refusal.WorkLength h = absurd (omega arith)
some_number Refusal.RetLength h = absurd (omega arith)
some_number Refusal.Program h = absurd (omega arith)
some_number Refusal.Device h = absurd (omega arith)
some_number Refusal.FrameLength h = absurd (omega arith)
some_number Refusal.FrameBroken h = absurd (omega arith)
some_number Refusal.ProgramTooLong h = absurd (omega arith)
some_number Refusal.SheetLength h = absurd (omega arith)
some_number Refusal.NoAssignment h = absurd (omega arith)
some_number Refusal.OutputShort h = absurd (omega arith)
some_number Refusal.PartRecord h = absurd (omega arith)
some_number Refusal.FrameTooLong h = absurd (omega arith)
some_number Refusal.SheetBroken h = absurd (omega arith)
some_number Refusal.OtherRoutine h = absurd (omega arith)

-- a buffer is wrong
pub by_buffers : (s : State) (refused : Refusal) (rows : List Row) → refusal_number refused ≡ refusal (buffer_rows s)
    → refusal_number refused ≡ refusal (buffer_rows s ++ rows)
by_buffers s refused rows e = stays (buffer_rows s) rows (refusal_number refused) (some_number refused) e

-- ---- 5, 6, 7, 8

-- the only row, or the last one, says nothing
row_silent : (k : ℕ) (t : Bool) → t ≡ false → refusal ((k, t) ∷ []) ≡ 0
row_silent k t e = passed_over k t [] e ∙ no_rows

-- no buffer is wrong: the other rows decide
module _ (s : State) (e : 0 ≡ refusal (buffer_rows s)) where
  pub by_rows : (rows : List Row) (k : ℕ) → refusal rows ≡ k → k ≡ refusal (buffer_rows s ++ rows)
  unfolding buffer_rows
  by_rows rows k g = sym (buffers_passed s rows (buffers_right s [] (sym e)).0 ∙ g)

  pub program-empty : (program : List ℕ) → length program ≡ 0 → 5 ≡ refusal (load_rows program s)
  unfolding load_rows
  program-empty program h = by_rows _ 5 (given_by 5 _ [] (rw (eq-eqb _ _ h)))

  pub program-long : (program : List ℕ) → (length program ≡ 0 → ⊥) → load_most < length program → 5 ≡ refusal (load_rows program s)
  unfolding load_rows
  program-long program h l = by_rows _ 5 (given_by 5 _ [] (rw (ne_eqb _ _ h, lt-ltb _ _ l)))

  pub program_right : (program : List ℕ) → (length program ≡ 0 → ⊥) → length program ≤ load_most → 0 ≡ refusal (load_rows program s)
  unfolding load_rows
  program_right program h l = by_rows _ 0 (row_silent 5 _ (rw (ne_eqb _ _ h, le-ltb _ _ l)))

  pub device_above : (device : ℕ) → 15 < device → 6 ≡ refusal (event_rows device s)
  unfolding event_rows
  device_above device h = by_rows _ 6 (given_by 6 _ [] (lt-ltb _ _ h))

  pub device_right : (device : ℕ) → device ≤ 15 → 0 ≡ refusal (event_rows device s)
  unfolding event_rows
  device_right device h = by_rows _ 0 (row_silent 6 _ (le-ltb _ _ h))

  pub frame-length : (frame : List ℕ) → (length frame ≡ frame_size → ⊥) → 7 ≡ refusal (frame_rows frame s)
  unfolding frame_rows
  frame-length frame h = by_rows _ 7 (given_by 7 _ _ (wrong _ _ h))

  pub frame_wrong : (frame : List ℕ) → length frame ≡ frame_size → well_formed frame_most frame ≡ false → 8 ≡ refusal (frame_rows frame s)
  unfolding frame_rows
  frame_wrong frame h w = by_rows _ 8 (passed_over 7 _ _ (right _ _ h) ∙ given_by 8 _ [] (ap not w))

  pub frame_right : (frame : List ℕ) → length frame ≡ frame_size → well_formed frame_most frame ≡ true → 0 ≡ refusal (frame_rows frame s)
  unfolding frame_rows
  frame_right frame h w = by_rows _ 0 (passed_over 7 _ _ (right _ _ h) ∙ row_silent 8 _ (ap not w))
