-- Laws of the functions on calls and returns: `come_back`, `release`, `leave`, `call`. Assumes nothing.
use mathlib.Core.Path.{◌≡◌, refl, sym, ap, ◌∙◌}
use mathlib.Core.Logic.{inl, inr}
use mathlib.Core.List.{List}
use Prim.Native.Nat.{ℕ, suc, ◌+◌, ◌-◌, ◌*◌, ◌≤◌, ◌<◌}
use native.Mathlib.Decide.{dec_lt}
use native.Mathlib.Omega.{arith}
use lib.ListN.{length, get_or, set}
use Rattle.model.specs.Machine.{start}
use Rattle.model.specs.Instruction.{returning, taken_from}
use Rattle.model.specs.Admission.{admit_most, byte_at, Within, after_of, target_of, Way, Called, floor, sheet_record, mark_in}
use Rattle.model.specs.Admission.Mark.{marked}
use Rattle.model.specs.Admission.Way.{return as comes_back_lem}
use Rattle.model.specs.Reasons.{Passes, Passable, came_from}
use Rattle.model.proofs.Computing.{decoding}
use Rattle.rules.proofs.Instructions.{byte_is}
use Rattle.std.specs.Prelude.{Result}
use Rattle.worklist.specs.declared.Rule.{Rule}
use Rattle.worklist.specs.Worklist.{work_at, ret_at, routine_at, Has, Led, Marks, Passing, Obeyed, Roots, Listed, Tested, Above, Extended, place_at, back_place, Lost, Told, Outcome, placed, Calls, Last, Back, AllBack, Left, Chain, returned_at, Waiting, Visit, Visited, Failing}
use Rattle.worklist.proofs.Listed.{same_parts, grown_left, goes_on_lem, marked_parts, marked-inside, stands_at, root, root_low, root_place, floor_is, record_inside, queue_most, unextended, extended_again, outcome_by, outcome_after}
use Rattle.worklist.proofs.Visits.{told, told_alone, rooting, passes, led-call, called_among, target_astray, return_obeyed, call_obeyed}
use Rattle.worklist.proofs.Waits.{next-other, next_known, next-first, next_waits, next-back, Released, released_one, same_calls, more_passing, more_last, more-waiting, more_released}

-- ---- the address after a call

module _ (program sheet queue : List ℕ) (list : Listed program sheet queue) (i : ℕ) (here : Marks sheet (start + i))
    (jsi : byte_at program (start + i) ≡ 0x60) (pass : Passing program sheet (start + i)) (from v : ℕ)
    (x : Left program sheet (target_of program (start + i)) from v) where
  this_mark : mark_in sheet (start + i) ≡ marked (work_at sheet i) (ret_at sheet i) (routine_at sheet i)
  this_mark = marked_parts program sheet queue list i here

  this_pass : Passes program (start + i) (work_at sheet i) (ret_at sheet i)
  this_pass = pass (work_at sheet i) (ret_at sheet i) (routine_at sheet i) this_mark

  after_is : after_of program (start + i) ≡ start + (i + 3)
  unfolding after_of decoding
  after_is = rw jsi (omega arith)

  pub back_inside : i + 3 ≤ length program
  unfolding after_of
  back_inside = omega (arith, this_pass.inside, after_is)

  -- the way there, from the call and from the return
  comes : (way : Way program (start + (i + 3)) v (ret_at sheet i) (routine_at sheet i)) × Passable way
      × (came_from way ≡ (start + i, marked (work_at sheet i) (ret_at sheet i) (routine_at sheet i)))
  comes =
      let call = list.ways _ _ _ _ this_mark in
      let end = list.ways _ _ _ _ x.here in
      let way : Way program (after_of program (start + i)) v (ret_at sheet i) (routine_at sheet i) = comes_back_lem call.0 jsi end.0 x.returns in
      let all : (way : Way program (after_of program (start + i)) v (ret_at sheet i) (routine_at sheet i)) × Passable way
      × (came_from way ≡ (start + i, marked (work_at sheet i) (ret_at sheet i) (routine_at sheet i))) =
      (comes_back_lem call.0 jsi end.0 x.returns, (call.1, this_pass, end.1, x.passes), refl) in
      rw after_is at all

  pub back_asks : (p : ℕ) → p ≡ routine_at sheet i
      → Listed program sheet queue × Led program (start + (i + 3)) v (ret_at sheet i) p × Roots program sheet (start + (i + 3)) (ret_at sheet i) p
  back_asks p e = (list, rw e (comes.0, comes.1), inr (rw e (root program sheet queue list i here)))

  pub back_ends : (sheet₁ queue₁ : List ℕ) (p : ℕ) → p ≡ routine_at sheet i
      → Extended program sheet queue sheet₁ queue₁ × (mark_in sheet₁ (start + (i + 3)) ≡ marked v (ret_at sheet i) p)
      → Extended program sheet queue sheet₁ queue₁ × Back program sheet₁ (start + i) v
  back_ends sheet₁ queue₁ p e o = (
    o.0,
    λ w r q f.
        let d = same_parts (o.0.grown _ _ _ _ this_mark) f in
        ap (mark_in sheet₁) after_is ∙ rw (← d.1, ← d.2, ← e) o.1,
  )

  -- it is outside the program, or has another mark
  from-marks : Marks sheet (start + from)
  from-marks = (v, x.ret, target_of program (start + i), x.here)

  from-work : work_at sheet from ≡ v
  from-work = (same_parts (marked_parts program sheet queue list from from-marks) x.here).0

  pub back_astray : (sheet₁ : List ℕ) (p : ℕ) → p ≡ routine_at sheet i
      → (sheet₁ ≡ sheet) × (Within program (start + (i + 3)) → Marks sheet (start + (i + 3)) × (Has sheet (start + (i + 3) - start) v (ret_at sheet i) p → ⊥))
      → Told program sheet₁ Rule.Back i from
  back_astray sheet₁ p e o =
      let other = rw e at o.1 in
      let lost : Lost program sheet (place_at sheet i) (back_place sheet i from) =
      record {
        goes = rw from-work comes;
        other = λ a.
            let z : start + (start + (i + 3) - start) ≡ start + (i + 3) = omega arith in
            let m = other a in
            (stands_at program sheet queue list (start + (i + 3) - start) (rw z m.0), λ b. m.1 (sym b.0 ∙ from-work, sym b.1, sym b.2));
      } in
      rw o.0
      (told program sheet queue list i here Rule.Back from (marked-inside program sheet queue list from from-marks) (back_inside, lost))

-- ---- the calls that wait, one after the other

module _ (program sheet queue : List ℕ) (list : Listed program sheet queue) (before : List ℕ) (q n from v : ℕ)
    (chain : Chain program sheet queue before q n) (x : Left program sheet q from v) where
  pub release_starts : (j : ℕ) → j ≡ n → Extended program sheet queue sheet queue × Released program sheet queue q n v j
  release_starts j e = (
    unextended program sheet queue list,
    rw e record { low = omega arith; this = chain.this; done = λ k a b c. absurd (omega arith) },
  )

  module _ (sheet₁ queue₁ : List ℕ) (j : ℕ) (g : Extended program sheet queue sheet₁ queue₁ × Released program sheet₁ queue₁ q n v j)
      (some : 0 < j) where
    this : Calls program queue₁ q (j - 1)
    this = g.1.this (j - 1) (omega arith)

    pub turn_low : j - 1 < length queue₁
    turn_low = omega (arith, g.1.low, chain.low, g.0.longer)

    pub turn_inside : j - 1 < admit_most
    turn_inside = omega (arith, turn_low, queue_most program sheet₁ queue₁ g.0.list, list.most)

    earlier : Last program queue q (j - 1) (get_or before (j - 1) 0)
    earlier =
        chain.befores (j - 1) (omega (arith, g.1.low))
        (same_calls program sheet queue list sheet₁ queue₁ g.0 q (j - 1) (omega (arith, g.1.low, chain.low)) this)

    pub turn_less : get_or before (j - 1) 0 < j
    turn_less = omega (arith, earlier.low)

    module _ (i : ℕ) (is-i : i ≡ get_or queue₁ (j - 1) 0) where
      pub turn_asks : Listed program sheet₁ queue₁ × Marks sheet₁ (start + i) × (byte_at program (start + i) ≡ 0x60)
          × Passing program sheet₁ (start + i) × Left program sheet₁ (target_of program (start + i)) from v
      turn_asks = (
        g.0.list,
        rw is-i (g.0.list.listed (j - 1) turn_low),
        rw is-i this.0,
        rw is-i
            (more_passing program sheet queue list sheet₁ queue₁ g.0 (j - 1) (omega (arith, g.1.low, chain.low))
            (chain.passed (j - 1) (omega (arith, g.1.low)))),
        rw (is-i, this.1) (grown_left program sheet sheet₁ g.0.grown q from v x),
      )

      pub turn_ends : (sheet₂ queue₂ : List ℕ) (k : ℕ) → k ≡ get_or before (j - 1) 0
          → Extended program sheet₁ queue₁ sheet₂ queue₂ × Back program sheet₂ (start + i) v
          → Extended program sheet queue sheet₂ queue₂ × Released program sheet₂ queue₂ q n v k
      turn_ends sheet₂ queue₂ k e o =
          let both = extended_again g.0 o.0 in
          let z : suc (j - 1) ≡ j = omega arith in
          let same : placed queue₂ (j - 1) ≡ start + i = ap (λ a. start + a) (o.0.kept (j - 1) turn_low ∙ sym is-i) in (
            both,
            released_one program sheet₂ queue₂ q n v (j - 1) k
                (rw z (more_released program sheet₁ queue₁ g.0.list sheet₂ queue₂ o.0 q n v j (omega (arith, chain.low, g.0.longer)) g.1))
                (rw same o.1)
                (rw e (more_last program sheet queue list sheet₂ queue₂ both q (j - 1) (get_or before (j - 1) 0) (omega (arith, g.1.low, chain.low)) earlier)),
          )

-- all of them
pub all_released : (program sheet queue : List ℕ) (q n v j : ℕ) → j ≤ 0 → Released program sheet queue q n v j → AllBack program sheet queue q n v
all_released program sheet queue q n v j z g k h c = g.done k (omega arith) h c

-- what obeys the rules passes
obeyed_passes : (program sheet : List ℕ) (at : ℕ) → Obeyed program sheet at → Passing program sheet at
obeyed_passes program sheet at o w r q e =
    let x = o w r q e in
    record { placed = x.placed; inside = x.inside; fine = x.fine; work = x.work; ret = x.ret; work_top = x.work_top; ret_top = x.ret_top }

-- ---- place `head` of the queue

module _ (program sheet queue : List ℕ) (head : ℕ) (routines before : List ℕ) (g : Visit program sheet queue head routines before)
    (i : ℕ) (is-i : i ≡ get_or queue head 0) where
  abbrev list : Listed program sheet queue
  list = g.list

  pub here : Marks sheet (start + i)
  here = rw is-i (list.listed head g.low)

  parts : mark_in sheet (start + i) ≡ marked (work_at sheet i) (ret_at sheet i) (routine_at sheet i)
  parts = marked_parts program sheet queue list i here

  place : placed queue head ≡ start + i
  place = rw is-i

  pub head_inside : head < admit_most
  head_inside = omega (arith, g.low, list.most, queue_most program sheet queue list)

  pub record_low : sheet_record * i + 7 < length sheet
  record_low = record_inside program sheet queue list i here

  -- with more marks
  module _ (sheet₁ queue₁ : List ℕ) (more : Extended program sheet queue sheet₁ queue₁) where
    place₁ : placed queue₁ head ≡ start + i
    place₁ = ap (λ a. start + a) (more.kept head g.low) ∙ place

    byte₁ : byte_at program (placed queue₁ head) ≡ get_or program i 0
    byte₁ = ap (byte_at program) place₁ ∙ byte_is program i

    mark₁ : mark_in sheet₁ (placed queue₁ head) ≡ marked (work_at sheet i) (ret_at sheet i) (routine_at sheet i)
    mark₁ = ap (mark_in sheet₁) place₁ ∙ more.grown _ _ _ _ parts

    waiting₁ : Waiting program sheet₁ queue₁ head routines before
    waiting₁ = more-waiting program sheet queue list sheet₁ queue₁ more head routines before (omega (arith, g.low)) g.waiting

  -- it passes, with more marks too
  passing : (work ret : ℕ) → Tested program sheet i work ret → (sheet₁ queue₁ : List ℕ) → Extended program sheet queue sheet₁ queue₁
      → Passing program sheet₁ (placed queue₁ head)
  passing work ret t sheet₁ queue₁ more v s p e =
      let d = same_parts (mark₁ sheet₁ queue₁ more) e in
      rw (place₁ sheet₁ queue₁ more, ← d.0, ← d.1) (passes program sheet queue list i here work ret t)

  pub leave_asks : get_or program i 0 ≡ 0x6C → (work ret : ℕ) → Tested program sheet i work ret
      → Visit program sheet queue head routines before × (get_or program (get_or queue head 0) 0 ≡ 0x6C)
      × ((work : ℕ) × (ret : ℕ) × Tested program sheet (get_or queue head 0) work ret)
  leave_asks e work ret t = (g, rw is-i at e, (work, ret, rw is-i at t))

  -- ---- neither a call nor a return
  pub other-visited : (get_or program i 0 ≡ 0x60 → ⊥) → (get_or program i 0 ≡ 0x6C → ⊥) → (sheet₁ queue₁ : List ℕ)
      → Extended program sheet queue sheet₁ queue₁ × Obeyed program sheet₁ (start + i)
      → Extended program sheet queue sheet₁ queue₁ × Visited program sheet₁ queue₁ head (placed queue head) routines before
  other-visited jsi return sheet₁ queue₁ o = (
    o.0,
    (
      rw place o.1,
      next-other program sheet₁ queue₁ head routines before (waiting₁ sheet₁ queue₁ o.0)
          (λ w r q e. obeyed_passes program sheet₁ (placed queue₁ head) (rw (place₁ sheet₁ queue₁ o.0) o.1) w r q e)
          (λ e. jsi (sym (byte₁ sheet₁ queue₁ o.0) ∙ e)) (λ e. return (sym (byte₁ sheet₁ queue₁ o.0) ∙ e)),
    ),
  )

  -- ---- a return: its routine, the floor of that, and its place
  module _ (found : get_or program (get_or queue head 0) 0 ≡ 0x6C) (tested : (work : ℕ) × (ret : ℕ) × Tested program sheet (get_or queue head 0) work ret)
      (p : ℕ) (p-is : p ≡ routine_at sheet i) where
    return : get_or program i 0 ≡ 0x6C
    return = rw is-i found

    t : Tested program sheet i tested.0 tested.1
    t = rw is-i tested.2

    module _ (least : ℕ) (least_is : least ≡ ret_at sheet (p - start)) where
      least-floor : least ≡ floor (mark_in sheet) (routine_at sheet i)
      least-floor = least_is ∙ rw p-is (floor_is program sheet queue list i here)

      pub off_floor : (least ≡ ret_at sheet i → ⊥) → Told program sheet Rule.ReturnOffFloor i 0
      off_floor h =
          told_alone program sheet queue list i here Rule.ReturnOffFloor
          (return, rooting program sheet queue list i here, λ e. h (least_is ∙ sym (e ∙ ap (λ a. ret_at sheet (a - start)) (sym p-is))))

      module _ (low : least ≡ ret_at sheet i) (entry : ℕ) (entry-is : entry ≡ p - start) where
        -- at the floor of 0100, which is 0, there are no bytes to take
        inner : routine_at sheet i ≡ start → ⊥
        unfolding decoding
        inner e =
            let f : floor (mark_in sheet) start ≡ 0 = rw list.first in
            let n : taken_from returning (get_or program i 0) ≡ 2 = rw return in
            omega (arith, t.holds_ret, least-floor, ap (floor (mark_in sheet)) e)

        entry_at : entry ≡ routine_at sheet i - start
        entry_at = entry-is ∙ ap (λ a. a - start) p-is

        routine-at : start + entry ≡ routine_at sheet i
        routine-at = omega (arith, entry_at, root_low program sheet queue list i here)

        pub entry-inside : entry < admit_most
        entry-inside = omega (arith, entry_at, root_place program sheet queue list i here, list.most)

        left : Left program sheet (routine_at sheet i) i (work_at sheet i)
        left =
            record {
              ret = ret_at sheet i;
              here = parts;
              returns = byte_is program i ∙ return;
              passes = passes program sheet queue list i here tested.0 tested.1 t;
            }

        obeys : (more : List ℕ) → ((b v s p : ℕ) → mark_in sheet b ≡ marked v s p → mark_in more b ≡ marked v s p)
            → Obeyed program more (placed queue head)
        obeys more grown =
            rw place
            (return_obeyed program sheet queue list i here tested.0 tested.1 t return (sym low ∙ least-floor) inner more grown)

        -- the routine has a return
        module _ (some : returned_at 0 ≤ get_or routines entry 0) (other : ℕ) (other-is : other ≡ get_or routines entry 0 - returned_at 0) where
          stored : get_or routines (routine_at sheet i - start) 0 ≡ returned_at other
          stored =
              let m : get_or routines entry 0 ≡ returned_at other = omega arith in
              ap (λ a. get_or routines a 0) (sym entry_at) ∙ m

          that : (v : ℕ) × Left program sheet (routine_at sheet i) other v
          that = g.waiting.leaves (routine_at sheet i) other (root_low program sheet queue list i here) stored

          that_marks : Marks sheet (start + other)
          that_marks = (that.0, that.1.ret, routine_at sheet i, that.1.here)

          that_parts : (work_at sheet other ≡ that.0) × (ret_at sheet other ≡ that.1.ret) × (routine_at sheet other ≡ routine_at sheet i)
          that_parts = same_parts (marked_parts program sheet queue list other that_marks) that.1.here

          pub other-inside : other < length program
          other-inside = marked-inside program sheet queue list other that_marks

          pub other_record : sheet_record * other + 7 < length sheet
          other_record = record_inside program sheet queue list other that_marks

          -- with this working depth
          pub known : work_at sheet other ≡ work_at sheet i
              → Extended program sheet queue sheet queue × Visited program sheet queue head (placed queue head) routines before
          known e =
              let same = unextended program sheet queue list in
              let z : that.0 ≡ work_at sheet i = sym that_parts.0 ∙ e in (
                same,
                (
                  obeys sheet (λ b v s p f. f),
                  next_known program sheet queue head routines before g.waiting (passing tested.0 tested.1 t sheet queue same)
                      (work_at sheet i) (ret_at sheet i) (routine_at sheet i)
                      (mark₁ sheet queue same)
                      (byte₁ sheet queue same ∙ return)
                      (other, stored, rw z at that.1),
                ),
              )

          -- with another one
          pub another : (work_at sheet other ≡ work_at sheet i → ⊥) → Told program sheet Rule.ReturnsDiffer i other
          another h =
              told program sheet queue list i here Rule.ReturnsDiffer other other-inside (
                return,
                sym (byte_is program other) ∙ that.1.returns,
                stands_at program sheet queue list other that_marks,
                sym that_parts.2,
                λ e. h (sym e),
              )

        -- none yet
        pub release_asks : get_or routines entry 0 < returned_at 0
            → Listed program sheet queue × Chain program sheet queue before (start + entry) (get_or routines entry 0)
            × Left program sheet (start + entry) i (work_at sheet i) × (entry < admit_most)
        release_asks z =
            let l = root_low program sheet queue list i here in
            let none : get_or routines (routine_at sheet i - start) 0 ≤ admit_most = omega (arith, ap (λ a. get_or routines a 0) entry_at) in
            let lasts = g.waiting.lasts (routine_at sheet i) l none in (
              list,
              rw (routine-at, entry_at)
                  record {
                    low = omega (arith, lasts.low, g.low);
                    passed = λ k h. g.waiting.passed k (omega (arith, lasts.low));
                    this = lasts.this;
                    befores = λ k h c. g.waiting.befores k (routine_at sheet i) (omega (arith, lasts.low)) l c none;
                  },
              rw routine-at left,
              entry-inside,
            )

        pub first-visited : get_or routines entry 0 < returned_at 0 → (sheet₁ queue₁ routines₁ : List ℕ)
            → routines₁ ≡ set routines entry (returned_at i)
            → (n : Result (Unit {0}) Failing) → Outcome program sheet queue sheet₁ queue₁ (AllBack program sheet₁ queue₁ (start + entry) (get_or routines entry 0) (work_at sheet i)) n
            → Outcome program sheet queue sheet₁ queue₁ (Visited program sheet₁ queue₁ head (placed queue head) routines₁ before) n
        first-visited z sheet₁ queue₁ routines₁ l =
            outcome_by program sheet queue sheet₁ queue₁
            (AllBack program sheet₁ queue₁ (start + entry) (get_or routines entry 0) (work_at sheet i))
            (Visited program sheet₁ queue₁ head (placed queue head) routines₁ before)
            (λ more b.
            let q = routine_at sheet i in
            let low = root_low program sheet queue list i here in
            let waits = waiting₁ sheet₁ queue₁ more in
            let none : get_or routines (q - start) 0 ≤ admit_most = omega (arith, ap (λ a. get_or routines a 0) entry_at) in
            let b₁ : AllBack program sheet₁ queue₁ q (get_or routines (q - start) 0) (work_at sheet i) = rw (routine-at, entry_at) at b in (
              obeys sheet₁ more.grown,
              rw (l, entry_at)
                  (next-first program sheet₁ queue₁ head routines before waits (passing tested.0 tested.1 t sheet₁ queue₁ more)
                  (work_at sheet i) (ret_at sheet i) q i low
                  (omega (arith, g.waiting.routines_size, entry-inside, entry_at))
                  (place₁ sheet₁ queue₁ more)
                  (mark₁ sheet₁ queue₁ more)
                  (byte₁ sheet₁ queue₁ more ∙ return)
                  none
                  (λ j h c. elim (dec_lt j (get_or routines (q - start) 0)) [
                    | yes m ↦ b₁ j m c
                    | no m ↦ absurd ((waits.lasts q low none).none j (omega arith) h c)
                  ])),
            ))

  -- ---- a call: its target
  module _ (jsi : get_or program i 0 ≡ 0x60) (work ret : ℕ) (t : Tested program sheet i work ret) (above : Above program sheet i)
      (target : ℕ) (target_is : target ≡ target_of program (start + i)) where
    called : Called program (mark_in sheet) target
    called =
        record {
          at = start + i;
          work = work_at sheet i;
          ret = ret_at sheet i;
          routine = routine_at sheet i;
          here = parts;
          calls = byte_is program i ∙ jsi;
          enters = sym target_is;
        }

    pub call_asks : Listed program sheet queue × Led program target work ret target × Roots program sheet target ret target
    call_asks = (list, led-call program sheet queue list i here work ret t jsi target target_is, inl (called, refl))

    -- the target is outside the program, or has another mark
    pub call_astray : (sheet₁ : List ℕ)
        → (sheet₁ ≡ sheet) × (Within program target → Marks sheet target × (Has sheet (target - start) work ret target → ⊥))
        → Told program sheet₁ Rule.Target i 0
    unfolding decoding
    call_astray sheet₁ =
        target_astray program sheet queue list i here work ret t sheet₁ target target target_is (target_is ∙ rw jsi) (rw jsi)
        (called_among program sheet queue list i here work ret t jsi target target_is)

    -- the target is marked
    module _ (sheet₁ queue₁ : List ℕ)
        (o : Extended program sheet queue sheet₁ queue₁ × (mark_in sheet₁ target ≡ marked work ret target)) where
      within : (start ≤ target) × (target < start + length program)
      within = (goes_on_lem program sheet₁ queue₁ o.0.list target work ret target o.1).0

      pub target-low : start ≤ target
      target-low = within.0

      module _ (entry : ℕ) (entry-is : entry ≡ target - start) where
        pub target-inside : entry < admit_most
        target-inside = omega (arith, within.0, within.1, list.most)

        -- its byte and its target, and that it obeys the rules
        calls : (sheet₂ queue₂ : List ℕ) → Extended program sheet queue sheet₂ queue₂ → Calls program queue₂ target head
        calls sheet₂ queue₂ both = (
          byte₁ sheet₂ queue₂ both ∙ jsi,
          ap (target_of program) (place₁ sheet₂ queue₂ both) ∙ sym target_is,
        )

        obeys_call : (sheet₂ queue₂ : List ℕ) → Extended program sheet₁ queue₁ sheet₂ queue₂
            → Obeyed program sheet₂ (placed queue head)
        obeys_call sheet₂ queue₂ more =
            rw place
            (call_obeyed program sheet queue list i here work ret t above jsi sheet₂ queue₂ more.list (extended_again o.0 more).grown target
            target_is
            (more.grown target work ret target o.1))

        -- its routine has no return yet
        pub no_return : get_or routines entry 0 < returned_at 0
            → Extended program sheet queue sheet₁ queue₁
            × Visited program sheet₁ queue₁ head (placed queue head) (set routines entry (head + 1)) (set before head (get_or routines entry 0))
        no_return z = (
          o.0,
          (
            obeys_call sheet₁ queue₁ (unextended program sheet₁ queue₁ o.0.list),
            rw entry-is
                (next_waits program sheet₁ queue₁ head routines before (waiting₁ sheet₁ queue₁ o.0) (passing work ret t sheet₁ queue₁ o.0) target target-low
                (omega (arith, g.waiting.routines_size, target-inside))
                (omega (arith, g.waiting.before_size, head_inside))
                head_inside
                (calls sheet₁ queue₁ o.0)
                (omega (arith, ap (λ a. get_or routines a 0) entry-is))),
          ),
        )

        -- it has some
        module _ (some : returned_at 0 ≤ get_or routines entry 0) (from : ℕ) (from_is : from ≡ get_or routines entry 0 - returned_at 0) where
          stored_at : get_or routines (target - start) 0 ≡ returned_at from
          stored_at = let m : get_or routines entry 0 ≡ returned_at from = omega arith in ap (λ a. get_or routines a 0) (sym entry-is) ∙ m

          returned : (v : ℕ) × Left program sheet target from v
          returned = g.waiting.leaves target from target-low stored_at

          returned-more : Left program sheet₁ target from returned.0
          returned-more = grown_left program sheet sheet₁ o.0.grown target from returned.0 returned.1

          from-marked : Marks sheet₁ (start + from)
          from-marked = (returned.0, returned-more.ret, target, returned-more.here)

          pub from_record : sheet_record * from + 7 < length sheet₁
          from_record = record_inside program sheet₁ queue₁ o.0.list from from-marked

          pub from-inside : from < length program
          from-inside = marked-inside program sheet₁ queue₁ o.0.list from from-marked

          abbrev v : ℕ
          v = work_at sheet₁ from

          depth_is : returned.0 ≡ v
          depth_is = sym (same_parts (marked_parts program sheet₁ queue₁ o.0.list from from-marked) returned-more.here).0

          pub come_asks : Listed program sheet₁ queue₁ × Marks sheet₁ (start + i) × (byte_at program (start + i) ≡ 0x60)
              × Passing program sheet₁ (start + i) × Left program sheet₁ (target_of program (start + i)) from v
          come_asks = (
            o.0.list,
            (work_at sheet i, ret_at sheet i, routine_at sheet i, o.0.grown _ _ _ _ parts),
            byte_is program i ∙ jsi,
            rw (place₁ sheet₁ queue₁ o.0) at (passing work ret t sheet₁ queue₁ o.0),
            rw (← target_is) (rw depth_is at returned-more),
          )

          pub come_visited : (sheet₂ queue₂ : List ℕ)
              → (n : Result (Unit {0}) Failing) → Outcome program sheet₁ queue₁ sheet₂ queue₂ (Back program sheet₂ (start + i) v) n
              → Outcome program sheet queue sheet₂ queue₂ (Visited program sheet₂ queue₂ head (placed queue head) routines before) n
          come_visited sheet₂ queue₂ n b =
              outcome_after program sheet queue sheet₁ queue₁ sheet₂ queue₂ _ o.0 n
              (outcome_by program sheet₁ queue₁ sheet₂ queue₂ (Back program sheet₂ (start + i) v)
              (Visited program sheet₂ queue₂ head (placed queue head) routines before)
              (λ more c.
              let both = extended_again o.0 more in (
                obeys_call sheet₂ queue₂ more,
                next-back program sheet₂ queue₂ head routines before (waiting₁ sheet₂ queue₂ both) (passing work ret t sheet₂ queue₂ both) target v
                    (calls sheet₂ queue₂ both)
                    (from, stored_at, grown_left program sheet₁ sheet₂ more.grown target from v (rw depth_is at returned-more))
                    (rw (place₁ sheet₂ queue₂ both) c),
              ))
              n
              b)
