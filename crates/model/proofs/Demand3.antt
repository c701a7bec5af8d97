-- Demand 3. Assumes nothing.
use Rattle.std.specs.Prelude.{None}
use mathlib.Core.Path.{◌≡◌, refl, sym, ap, ◌∙◌}
use mathlib.Core.Bool.{true, true≢false}
use mathlib.Core.List.{List, [], ◌∷◌}
use Prim.Native.Nat.{ℕ, zero, suc, ◌+◌, ◌-◌, ◌/◌, ◌≤◌, ◌<◌}
use native.Mathlib.Nat.{le_trans}
use native.Mathlib.Decide.{ℕ_discrete}
use native.Mathlib.Omega.{arith}
use lib.ListN.{length, get_or, take, drop}
use Rattle.model.specs.Bytes.{Bytes, Every}
use Rattle.model.specs.Machine.{start, State}
use Rattle.model.specs.Step.{execute, step, fetched, breaks}
use Rattle.model.specs.Run.{run, trace}
use Rattle.model.specs.Admission.{admit_most, byte_at, Within, sheet_record, record_byte, record_of, mark_in, Smallest}
use Rattle.model.specs.Calls.{frame_size, framed, load, install_call}
use Rattle.model.specs.Demand3.{Call, filled, called, traced, next, Stands, InstallsRefused, Intact, Sound, open_after, Lands, EachLands, greatest_of, greatest_depth, HighInSheet, Safe, Demand3}
use Rattle.model.proofs.Bytes.{greater_both, greater-most}
use Rattle.model.proofs.Changes.{length_is}
use Rattle.model.proofs.Steps.{execute-high}
use Rattle.model.proofs.Runs.{run_induction}
use Rattle.model.proofs.Marked.{At, no_wrap_lem, above, lands, goes_on_lem, brk_stays}
use Rattle.model.proofs.Exactness.{passes, smallest, exact}
use Rattle.model.proofs.Installs.{installed, installed_exactly}
use Rattle.model.proofs.Lists.{next_by, Whole, filled-whole, framed-whole, next-whole, filled-above, framed-above, framed_starts, after_install}

-- ---- the greatest depth of a column is at least each of its bytes

greatest_most : (sheet : List ℕ) (k n i : ℕ) → i < n → record_byte sheet (start + i) k ≤ greatest_of k n sheet
unfolding greatest_of
greatest_most sheet k zero i h = absurd (omega arith)
greatest_most sheet k (suc n) i h = by (ℕ_discrete i n) (greatest_most sheet k n i) (greater_both (greatest_of k n sheet) (record_byte sheet (start + n) k))
  where
    by : Dec (i ≡ n) → (i < n → record_byte sheet (start + i) k ≤ greatest_of k n sheet)
        → (greatest_of k n sheet ≤ greatest_of k (suc n) sheet) × (record_byte sheet (start + n) k ≤ greatest_of k (suc n) sheet)
        → record_byte sheet (start + i) k ≤ greatest_of k (suc n) sheet
    by (yes e) ih g = rw e g.1
    by (no e) ih g = le_trans (ih (omega arith)) g.0

-- ---- the high marks where no step is taken

framed-high : (sheet frame : List ℕ) (s : State) → HighInSheet sheet (framed frame s)
unfolding framed
framed-high sheet frame s = record { work = omega arith; ret = omega arith }

loaded_high : (sheet filter : List ℕ) → HighInSheet sheet (load filter)
unfolding load
loaded_high sheet filter = record { work = omega arith; ret = omega arith }

filled-high : (sheet : List ℕ) (c : Call) (s : State) → HighInSheet sheet s → HighInSheet sheet (filled c s)
unfolding filled
filled-high sheet c s b = record { work = b.work; ret = b.ret }

-- ---- along a list of calls

module _ (filter sheet : List ℕ) (written : Smallest filter sheet) (most : length filter ≤ admit_most) (bytes : Bytes filter) where
  -- at a marked address of the sheet, while these calls are open
  abbrev Here : List ℕ → State → Type 0
  Here = At filter (mark_in sheet)

  sound : (opened : List ℕ) (s : State) → Here opened s → Sound filter sheet s
  sound opened s at =
      let rule = written.assigned.rules s.pc s.work.pointer s.ret.pointer at.routine at.here in
      let inside : Within filter s.pc = (rule.placed, omega (arith, rule.inside, length_is (byte_at filter s.pc))) in
      let entry = written.records s.pc inside ∙ ap (λ m. record_of m (byte_at filter s.pc)) at.here in
      record {
        marked = (rule.placed, ap (λ b. get_or b 0 0) entry);
        work = sym (ap (λ b. get_or b 1 0) entry);
        ret = sym (ap (λ b. get_or b 2 0) entry);
        no_wrap = no_wrap_lem filter (mark_in sheet) written.assigned most bytes opened s at;
        intact = at.intact;
      }

  -- a depth at a marked address stands in its column
  in_column : (opened : List ℕ) (s : State) → Here opened s → (k : ℕ) → record_byte sheet s.pc k ≤ greatest_depth k sheet
  in_column opened s at k =
      let rule = written.assigned.rules s.pc s.work.pointer s.ret.pointer at.routine at.here in
      let i = s.pc - start in
      let e : s.pc ≡ start + i = omega (arith, rule.placed) in
      let l : i < length sheet / sheet_record = omega (arith, written.size, rule.placed, rule.inside, length_is (byte_at filter s.pc)) in
      rw e (greatest_most sheet k (length sheet / sheet_record) i l)

  -- so do both pointers
  abbrev Low : State → Type 0
  Low s = (s.work.pointer ≤ greatest_depth 1 sheet) × (s.ret.pointer ≤ greatest_depth 2 sheet)

  low : (opened : List ℕ) (s : State) → Here opened s → Low s
  low opened s at =
      let y = sound opened s at in
      (rw y.work (in_column opened s at 1), rw y.ret (in_column opened s at 2))

  -- a step raises the high marks to the pointers after it
  raises : (s : State) → HighInSheet sheet s → Low (step s) → HighInSheet sheet (step s)
  unfolding step
  raises s b l =
      let e = execute-high (fetched s) s in
      let w : (execute (fetched s) s).high.work ≤ greatest_depth 1 sheet = rw e b.work in
      let r : (execute (fetched s) s).high.ret ≤ greatest_depth 2 sheet = rw e b.ret in
      record { work = greater-most _ _ _ w l.0; ret = greater-most _ _ _ r l.1 }

  -- memory from 0100 on decides
  same_above : (s t : State) → drop start t.memory ≡ drop start s.memory → Intact filter s → Intact filter t
  same_above s t e h = ap (take (length filter)) e ∙ h

  -- what holds of the states before each step, and of the machine afterwards, while these calls are open at first
  abbrev Kept : List ℕ → List State → State → Type 0
  Kept opened t after = Every (Sound filter sheet) t × EachLands opened t × Intact filter after × HighInSheet sheet after

  -- a run from a marked address
  run_sound : (k : ℕ) (s : State) (opened : List ℕ) → Here opened s → HighInSheet sheet s → Kept opened (trace None k s) (run None k s).state
  run_sound =
      run_induction None (λ k s r t. (opened : List ℕ) → Here opened s → HighInSheet sheet s → Kept opened t r.state)
      (λ s opened at b. (tt, tt, at.intact, b))
      (λ k s e opened at b. ((sound opened s at, tt), (landed opened s at, tt), stepped opened s at, raises s b (broke opened s at e)))
      (λ k s e f. absurd (true≢false (sym f)))
      (λ k s r t e f ih opened at b.
      let on = goes_on_lem filter (mark_in sheet) written.assigned most bytes opened s at e in
      let u = ih (open_after s opened) on (raises s b (low (open_after s opened) (step s) on)) in
      ((sound opened s at, u.0), (landed opened s at, u.1), u.2, u.3))
    where
      broke : (opened : List ℕ) (s : State) → Here opened s → breaks s ≡ true → Low (step s)
      broke opened s at e = let l = low opened s at in let p = brk_stays s e in (rw p.0 l.0, rw p.1 l.1)

      landed : (opened : List ℕ) (s : State) → Here opened s → Lands opened s
      landed opened s at = lands filter (mark_in sheet) written.assigned most bytes opened s at

      stepped : (opened : List ℕ) (s : State) → Here opened s → Intact filter (step s)
      stepped opened s at = same_above s (step s) (above filter (mark_in sheet) written.assigned most bytes opened s at) at.intact

  -- a frame call starts at 0100, with both depths 0, and no call open
  starts : (frame : List ℕ) (s : State) → length frame ≡ frame_size → Bytes frame → Whole s → Intact filter s → Here [] (framed frame s)
  starts frame s l h z i =
      let e = framed_starts frame s in
      let w = framed-whole frame s l h z in
      record {
        intact = same_above s (framed frame s) (framed-above frame s l z.sized) i;
        routine = start;
        here = rw (e.0, e.1, e.2) written.assigned.first;
        calls = refl;
        sized = w.sized;
        range = w.range;
      }

  call_sound : (c : Call) (s : State) → Stands c.request (called c s) → Whole s → Intact filter s → HighInSheet sheet s
      → Kept [] (traced c.request (called c s)) (next c s)
  call_sound c s t z i b =
      let y = filled-whole c s z in
      let j = same_above s (filled c s) (filled-above c s) i in
      next_by (Kept []) c s t (tt, tt, j, filled-high sheet c s b) (λ bytes h budget right l.
      run_sound budget _ [] (starts bytes (filled c s) l h y j) (framed-high sheet bytes (filled c s)))

  list-safe : (s : State) → Whole s → Intact filter s → HighInSheet sheet s → (calls : List Call) → InstallsRefused s calls → Safe filter sheet s calls
  list-safe s z i b [] t = (i, b)
  list-safe s z i b (c ∷ cs) t =
      let r = call_sound c s t.0 z i b in
      (i, b, r.0, r.1, list-safe (next c s) (next-whole c s t.0 z) r.2 r.3 cs t.1)

pub demand3 : Demand3
demand3 =
    record {
      exact = exact;
      installed = installed_exactly;
      safe = λ filter sheet bytes s t calls.
          let i = installed filter sheet s t in
          let ok = passes filter sheet i.admits in
          let a = after_install filter sheet s bytes t in
          let written : Smallest filter (install_call filter sheet s).sheet = rw i.written (smallest filter sheet ok) in
          let high : HighInSheet (install_call filter sheet s).sheet (install_call filter sheet s).reply.state = rw i.loads (loaded_high (install_call filter sheet s).sheet filter) in
          list-safe filter (install_call filter sheet s).sheet written ok.most bytes (install_call filter sheet s).reply.state a.0 a.1 high calls;
    }
