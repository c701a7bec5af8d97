-- The worklist from its first address to its last: when it ends, the sheet is the smallest one. Assumes nothing.
use mathlib.Core.Path.{◌≡◌, refl, sym, ap, ◌∙◌}
use mathlib.Core.Logic.{inl}
use mathlib.Core.List.{List, [], ◌∷◌}
use Prim.Native.Nat.{ℕ, ◌+◌, ◌-◌, ◌≤◌, ◌<◌}
use native.Mathlib.Decide.{ℕ_discrete}
use native.Mathlib.Omega.{arith}
use lib.ListN.{length, get_or, length-set, replicate, length-replicate}
use Rattle.model.specs.Bytes.{Every}
use Rattle.model.specs.Machine.{start}
use Rattle.model.specs.Admission.{Mark, admit_most, successors, GoesOn, Leaves, Rules, mark_at, sheet_of, record_at, mark_in, Smallest}
use Rattle.model.specs.Admission.Mark.{unmarked, marked}
use Rattle.model.specs.Admission.Way.{begin}
use Rattle.model.proofs.Reached.{begun, begun_first, begun_cases, along, assigned_closed}
use Rattle.model.proofs.Rules.{marked-at, successors_by}
use Rattle.model.proofs.Sheet.{length-sheet, mark_in_lem, record_is}
use Rattle.worklist.specs.Worklist.{with_mark, Marks, Obeyed, Listed, Extended, placed, Calls, HasReturn, Waiting, Visit, Visited}
use Rattle.worklist.proofs.Sheets.{sheet-set}
use Rattle.worklist.proofs.Returns.{other-visited}
use Rattle.worklist.proofs.Waits.{same_return}
use Rattle.std.specs.Prelude.{Ok}
use Rattle.admission.specs.Explored.{OfRoutines, Going, Walked}
use Rattle.admission.proofs.Blank.{blank, zero-at}
use Rattle.worklist.proofs.Listed.{same_parts, place_mark, marks_are, goes_on_lem, grown-led, grown-floor}

-- ---- the first address

module _ (program sheet queue : List ℕ) (some : 1 ≤ length program) (most : length program ≤ admit_most)
    (sheets : sheet ≡ with_mark (blank program) 0 0 0 start) (queues : queue ≡ 0 ∷ []) where
  first : List Mark
  first = begun (length program)

  size : length first ≡ length program
  unfolding first
  size = simp (length-set, length-replicate)

  wrote : sheet ≡ sheet_of first program
  unfolding first
  wrote =
      sheets ∙ sheet-set (replicate (length program) unmarked) program 0 0 0 start (length-replicate (length program) unmarked) (omega arith)

  in_first : (at : ℕ) → mark_in sheet at ≡ mark_at first at
  in_first at = ap (λ s. mark_in s at) wrote ∙ mark_in_lem first program size at

  first_mark : mark_in sheet start ≡ marked 0 0 start
  unfolding first
  first_mark = in_first start ∙ place_mark (begun (length program)) 0 ∙ (begun_first (length program) (omega arith)).0

  only : (at w r q : ℕ) → mark_in sheet at ≡ marked w r q → (at ≡ start) × (0 ≡ w) × (0 ≡ r) × (start ≡ q)
  unfolding first
  only at w r q e =
      let d = marked-at (begun (length program)) at w r q (sym (in_first at) ∙ e) in
      let c = begun_cases (length program) (at - start) w r q d.1 in
      let p = same_parts refl c.1 in
      (omega (arith, d.0, c.0), p.0, p.1, p.2)

  zeroth : start + get_or queue 0 0 ≡ start
  zeroth = rw queues refl

  -- no call and no return was visited
  waits : Waiting program sheet queue 0 (replicate admit_most 0) (replicate admit_most 0)
  waits =
      record {
        routines_size = length-replicate {A = ℕ} admit_most 0;
        before_size = length-replicate {A = ℕ} admit_most 0;
        passed = λ k h. absurd (omega arith);
        returned = λ k v r q h. absurd (omega arith);
        leaves = λ q j l e. absurd (omega (arith, zero-at admit_most (q - start)));
        back = λ k q v h. absurd (omega arith);
        lasts = λ q l m.
            let z = zero-at admit_most (q - start) in
            record { low = omega arith; this = λ k e. absurd (omega arith); none = λ k a h. absurd (omega arith) };
        befores = λ k q h. absurd (omega arith);
      }

  pub begins : Going program sheet queue 0 (replicate admit_most 0) (replicate admit_most 0)
  unfolding first
  begins =
      record {
        list = record {
          most = most;
          marks = first;
          size = size;
          written = wrote;
          counted = ap length queues ∙ sym (begun_first (length program) (omega arith)).1;
          first = first_mark;
          ways = λ at w r q e. let o = only at w r q e in rw (o.0, ← o.1, ← o.2, ← o.3) (begin, tt);
          rooted = λ at w r q e. let o = only at w r q e in rw (← o.2, ← o.3) record { led = inl refl; work = 0; floor = 0; entered = first_mark; low = omega arith };
          listed = λ k h. let z : k ≡ 0 = omega (arith, ap length queues) in (0, 0, start, rw (z, zeroth) first_mark);
          covers = λ at w r q e. (0, omega (arith, ap length queues), (only at w r q e).0 ∙ sym zeroth);
        };
        visited = λ k h. absurd (omega arith);
        waiting = waits;
        low = omega arith;
      }

  pub begins_list : Listed program sheet queue
  begins_list = begins.list

-- ---- the next address

-- what obeys the rules obeys them with more marks
module _ (program sheet queue : List ℕ) (list : Listed program sheet queue) (after : List ℕ)
    (grown : (at w r q : ℕ) → mark_in sheet at ≡ marked w r q → mark_in after at ≡ marked w r q) where
  still_on : (at w r q : ℕ) → Every (GoesOn program (mark_in sheet)) (successors program at w r q) → Every (GoesOn program (mark_in after)) (successors program at w r q)
  still_on at w r q =
      successors_by (λ nexts. Every (GoesOn program (mark_in sheet)) nexts → Every (GoesOn program (mark_in after)) nexts) program at w r q
      (λ t. tt)
      (λ a b t. ((t.0.0, grown a _ _ _ t.0.1), ((t.1.0.0, grown b _ _ _ t.1.0.1), tt)))
      (λ a t. ((t.0.0, grown a _ _ _ t.0.1), tt))
      (λ e t. ((t.0.0, grown _ _ _ _ t.0.1), tt))

  still_obeyed : (at : ℕ) → Marks sheet at → Obeyed program sheet at → Obeyed program after at
  still_obeyed at m o w r q e =
      let d = same_parts (grown at _ _ _ m.3) e in
      let x = o m.0 m.1 m.2 m.3 in
      let same = grown-floor program sheet after grown m.2 m.1 (list.rooted at m.0 m.1 m.2 m.3) in
      rw (← d.0, ← d.1, ← d.2)
      record {
        work_low = x.work_low;
        ret_low = x.ret_low;
        placed = x.placed;
        inside = x.inside;
        fine = x.fine;
        work = x.work;
        ret = x.ret;
        work_top = x.work_top;
        ret_top = x.ret_top;
        on = still_on at m.0 m.1 m.2 x.on;
        routine = grown-led program sheet after grown m.2 x.routine;
        above = λ n. rw same (x.above n);
        low = λ f. rw same (x.low f);
        inner = x.inner;
      }

pub going_visit : (program sheet queue : List ℕ) (head : ℕ) (routines before : List ℕ)
    → Going program sheet queue head routines before → head < length queue → Visit program sheet queue head routines before
going_visit program sheet queue head routines before g h = record { list = g.list; waiting = g.waiting; low = h }

pub next : (program sheet queue : List ℕ) (head : ℕ) (routines before : List ℕ) → Going program sheet queue head routines before
    → head < length queue → (sheet₁ queue₁ : List ℕ) (routines₁ before₁ : List ℕ)
    → Extended program sheet queue sheet₁ queue₁ × Visited program sheet₁ queue₁ head (placed queue head) routines₁ before₁
    → Going program sheet₁ queue₁ (head + 1) routines₁ before₁
next program sheet queue head routines before g h sheet₁ queue₁ routines₁ before₁ o =
    record {
      list = o.0.list;
      visited = λ k l.
          rw (o.0.kept k (omega (arith, g.low)))
          (elim (ℕ_discrete k head) [
            | yes e ↦ rw e o.1.0
            | no e ↦
                still_obeyed program sheet queue g.list sheet₁ o.0.grown (placed queue k) (g.list.listed k (omega arith))
                (g.visited k (omega arith))
          ]);
      waiting = o.1.1;
      low = omega (arith, o.0.longer);
    }

-- ---- a walk

-- from place `first` on to place `head`
pub record Walking (program sheet queue : List ℕ) (first : ℕ) (sheet₁ queue₁ : List ℕ) (head : ℕ) : Type 0 where
  pub list : Listed program sheet₁ queue₁
  pub low : first ≤ head
  pub high : head ≤ length queue₁
  pub went : (routines before : List ℕ) → Going program sheet queue first routines before → Going program sheet₁ queue₁ head routines before

pub walk_starts : (program sheet queue : List ℕ) (first : ℕ) → Listed program sheet queue → first ≤ length queue
    → Walking program sheet queue first sheet queue first
walk_starts program sheet queue first list h =
    record { list = list; low = omega arith; high = h; went = λ routines before g. g }

module _ (program sheet queue : List ℕ) (first : ℕ) (sheet₁ queue₁ : List ℕ) (head : ℕ)
    (walk : Walking program sheet queue first sheet₁ queue₁ head) (h : head < length queue₁) where
  module _ (i : ℕ) (is-i : i ≡ get_or queue₁ head 0) where
    pub walk_here : Marks sheet₁ (start + i)
    walk_here = rw is-i (walk.list.listed head h)

    pub walk_met : OfRoutines (get_or program i 0) → Walked program sheet queue first sheet₁ queue₁ (Ok head)
    walk_met o = (λ l. rw is-i at o, walk.low, walk.went)

    pub walk_next : (get_or program i 0 ≡ 0x60 → ⊥) → (get_or program i 0 ≡ 0x6C → ⊥) → (sheet₂ queue₂ : List ℕ)
        → Extended program sheet₁ queue₁ sheet₂ queue₂ × Obeyed program sheet₂ (start + i)
        → Walking program sheet queue first sheet₂ queue₂ (head + 1)
    walk_next jsi return sheet₂ queue₂ o =
        record {
          list = o.0.list;
          low = omega (arith, walk.low);
          high = omega (arith, o.0.longer);
          went = λ routines before g.
              let on = walk.went routines before g in
              next program sheet₁ queue₁ head routines before on h sheet₂ queue₂ routines before
              (other-visited program sheet₁ queue₁ head routines before (going_visit program sheet₁ queue₁ head routines before on h) i is-i jsi
              return
              sheet₂
              queue₂
              o);
        }

-- to the end of the queue
pub walk_done : (program sheet queue : List ℕ) (first : ℕ) (sheet₁ queue₁ : List ℕ) (head : ℕ)
    → Walking program sheet queue first sheet₁ queue₁ head → length queue₁ ≤ head → Walked program sheet queue first sheet₁ queue₁ (Ok head)
walk_done program sheet queue first sheet₁ queue₁ head walk end = (λ l. absurd (omega arith), walk.low, walk.went)

-- ---- after the last: the sheet is the smallest one

module _ (program sheet queue routines before : List ℕ) (head : ℕ) (g : Going program sheet queue head routines before) (end : length queue ≤ head) where
  abbrev list : Listed program sheet queue
  list = g.list

  abbrev waiting : Waiting program sheet queue head routines before
  waiting = g.waiting

  same : (at : ℕ) → mark_in sheet at ≡ mark_at list.marks at
  same = marks_are program sheet queue list

  within : (at w r q : ℕ) → mark_in sheet at ≡ marked w r q → GoesOn program (mark_in sheet) (at, marked w r q)
  within = goes_on_lem program sheet queue list

  -- what is marked was visited
  rules : (at w r q : ℕ) → mark_in sheet at ≡ marked w r q → Rules program (mark_in sheet) at w r q
  rules at w r q e =
      let c = list.covers at w r q e in
      rw c.2 (g.visited c.0 (omega (arith, c.1)) w r q (rw c.2 at e))

  -- the array has a return with the working depth of each
  depth_is : (q v : ℕ) → Leaves program (mark_in sheet) q v → HasReturn program sheet routines q v
  depth_is q v x =
      let c = list.covers x.at v x.ret q x.here in
      waiting.returned c.0 v x.ret q (omega (arith, c.1)) (rw c.2 at x.here) (rw c.2 at x.returns)

  -- a routine is an address of the program
  routine-low : (at w r q : ℕ) → mark_in sheet at ≡ marked w r q → start ≤ q
  routine-low at w r q e = let o = list.rooted at w r q e in (within q o.work o.floor q o.entered).0.0

  pub ends : Smallest program sheet
  ends =
      record {
        size = ap length list.written ∙ length-sheet list.marks program list.size;
        records = λ at i. rw (same at) (ap (λ s. record_at s at) list.written ∙ record_is list.marks program at list.size i);
        assigned = record {
          first = list.first;
          rules = rules;
          one = λ q v w x y. same_return program sheet routines q v w (depth_is q v x) (depth_is q w y);
          back = λ q v c x.
              let k = list.covers c.at c.work c.ret c.routine c.here in
              let call : Calls program queue q k.0 = (rw k.2 at c.calls, rw k.2 at c.enters) in
              let e = waiting.back k.0 q v (omega (arith, k.1)) (routine-low x.at v x.ret q x.here) call (depth_is q v x) c.work c.ret c.routine (rw k.2 at c.here) in
              rw k.2 (within _ v c.ret c.routine e);
        };
        least = λ f a at w r q e. along program f (assigned_closed program f a) (list.ways at w r q e).0;
      }
