-- Laws of the worklist: an address that is reached, for each of the ways in which `reach` ends. Assumes nothing.
use mathlib.Core.Path.{◌≡◌, refl, sym, ap, ◌∙◌}
use mathlib.Core.Logic.{◌⊎◌, inl, inr}
use mathlib.Core.Bool.{Bool, true, false, cond}
use mathlib.Core.List.{List, [], ◌∷◌, ◌++◌}
use Prim.Native.Nat.{ℕ, ◌+◌, ◌-◌, ◌*◌, ◌≤◌, ◌<◌}
use native.Mathlib.Decide.{ℕ_discrete}
use native.Mathlib.Omega.{arith}
use lib.ListN.{length, get_or, set, length-set, get_or-append, length-append}
use lib.Seq.{get_or-set_same, get_or-set_other, get_or-append_seam}
use lib.Dec.{ltb}
use borrow.Author.Tests.{ltb-false, le-ltb}
use Rattle.model.specs.Machine.{start}
use Rattle.model.specs.Admission.{Mark, admit_most, GoesOn, Called, ret_of, floor, mark_at, sheet_record, record_of, sheet_of, mark_in}
use Rattle.model.specs.Admission.Mark.{unmarked, marked}
use Rattle.model.specs.Reasons.{Stands}
use Rattle.model.proofs.Reached.{count_most}
use Rattle.model.proofs.Rules.{not_both, marked_within}
use Rattle.model.proofs.Sheet.{mark_in_lem, length-sheet}
use Rattle.std.specs.Prelude.{Result, Ok, Err}
use Rattle.worklist.specs.declared.Rule.{Rule}
use Rattle.worklist.specs.Worklist.{work_at, ret_at, routine_at, with_mark, Agrees, Led, Marks, Rooted, Roots, Listed, Extended, Marking, place_at, Told, Failing, ToldIn, Outcome, Left}
use Rattle.worklist.proofs.Sheets.{byte_of_record, mark_unmarked, mark_marked, sheet-set, count_set, count_room}

-- a mark has one pair of depths and one routine
pub same_parts : {a : Mark} {w r q v s p : ℕ} → a ≡ marked w r q → a ≡ marked v s p → (w ≡ v) × (r ≡ s) × (q ≡ p)
same_parts e f = (cc, cc, cc)

-- a place is an address of the program
pub place_mark : (marks : List Mark) (i : ℕ) → mark_at marks (start + i) ≡ get_or marks i unmarked
unfolding mark_at
place_mark marks i =
    let e : start + i - start ≡ i = omega arith in
    rw (le-ltb (start + i) start (omega arith), e)

-- the marks after one more
module _ (marks : List Mark) (i w r q : ℕ) (inside : i < length marks) where
  pub added_mark : mark_at (set marks i (marked w r q)) (start + i) ≡ marked w r q
  added_mark = place_mark (set marks i (marked w r q)) i ∙ get_or-set_same marks i (marked w r q) unmarked inside

  pub other_mark : (at : ℕ) → (at ≡ start + i → ⊥) → mark_at (set marks i (marked w r q)) at ≡ mark_at marks at
  unfolding mark_at
  other_mark at h = by (ltb at start) refl
    where
      by : (t : Bool) → ltb at start ≡ t
          → cond t unmarked (get_or (set marks i (marked w r q)) (at - start) unmarked) ≡ cond t unmarked (get_or marks (at - start) unmarked)
      by true e = refl
      by false e =
          let l = ltb-false at start e in
          get_or-set_other marks i (at - start) (marked w r q) unmarked (λ j. h (omega arith))

  -- a mark that is there stays
  pub kept_mark : get_or marks i unmarked ≡ unmarked → (at v s p : ℕ) → mark_at marks at ≡ marked v s p
      → mark_at (set marks i (marked w r q)) at ≡ marked v s p
  kept_mark free at v s p e = other_mark at (λ h. not_both (sym (sym e ∙ rw h (place_mark marks i ∙ free)))) ∙ e

  -- a mark afterwards was there, or is the new one
  pub mark_cases : (at v s p : ℕ) → mark_at (set marks i (marked w r q)) at ≡ marked v s p
      → (mark_at marks at ≡ marked v s p) ⊎ ((at ≡ start + i) × (w ≡ v) × (r ≡ s) × (q ≡ p))
  mark_cases at v s p e = by (ℕ_discrete at (start + i))
    where
      by : Dec (at ≡ start + i) → (mark_at marks at ≡ marked v s p) ⊎ ((at ≡ start + i) × (w ≡ v) × (r ≡ s) × (q ≡ p))
      by (yes h) = let d = same_parts added_mark (rw h at e) in inr (h, d.0, d.1, d.2)
      by (no h) = inl (sym (other_mark at h) ∙ e)

-- what leads to a routine stays with more marks
module _ (program sheet after : List ℕ) (grown : (at w r q : ℕ) → mark_in sheet at ≡ marked w r q → mark_in after at ≡ marked w r q) where
  pub grown-called : (q : ℕ) → Called program (mark_in sheet) q → Called program (mark_in after) q
  grown-called q c =
      record {
        at = c.at;
        work = c.work;
        ret = c.ret;
        routine = c.routine;
        here = grown c.at c.work c.ret c.routine c.here;
        calls = c.calls;
        enters = c.enters;
      }

  pub grown-led : (q : ℕ) → (q ≡ start) ⊎ Called program (mark_in sheet) q → (q ≡ start) ⊎ Called program (mark_in after) q
  grown-led q (inl e) = inl e
  grown-led q (inr c) = inr (grown-called q c)

  pub grown-rooted : (q r : ℕ) → Rooted program sheet q r → Rooted program after q r
  grown-rooted q r o =
      record {
        led = grown-led q o.led;
        work = o.work;
        floor = o.floor;
        entered = grown q o.work o.floor q o.entered;
        low = o.low;
      }

  -- and so does its floor
  pub grown-floor : (q r : ℕ) → Rooted program sheet q r → floor (mark_in after) q ≡ floor (mark_in sheet) q
  grown-floor q r o = rw (o.entered, grown q o.work o.floor q o.entered)

  pub grown_left : (q j v : ℕ) → Left program sheet q j v → Left program after q j v
  grown_left q j v x = record { ret = x.ret; here = grown (start + j) v x.ret q x.here; returns = x.returns; passes = x.passes }

-- ---- an address that is reached

module _ (program sheet queue : List ℕ) (list : Listed program sheet queue) where
  -- the marks of the sheet are those that it was written from
  pub marks_are : (at : ℕ) → mark_in sheet at ≡ mark_at list.marks at
  marks_are at = rw list.written (mark_in_lem list.marks program list.size at)

  pub sheet-length : length sheet ≡ sheet_record * length program
  sheet-length = rw list.written (length-sheet list.marks program list.size)

  -- there are no more places in the queue than the program has bytes
  pub queue_most : length queue ≤ length program
  queue_most = omega (arith, list.counted, list.size, count_most list.marks)

  -- byte k of the record of place i
  sheet-byte : (i k : ℕ) → i < length program → k < sheet_record
      → get_or sheet (sheet_record * i + k) 0 ≡ get_or (record_of (get_or list.marks i unmarked) (get_or program i 0)) k 0
  sheet-byte i k h g = rw list.written (byte_of_record list.marks program i k list.size h g)

  first_byte : (i : ℕ) → i < length program
      → get_or sheet (sheet_record * i) 0 ≡ get_or (record_of (get_or list.marks i unmarked) (get_or program i 0)) 0 0
  first_byte i h = let e : sheet_record * i + 0 ≡ sheet_record * i = omega arith in rw e at (sheet-byte i 0 h (omega arith))

  -- a record whose mark is not 0: its depths and its routine
  pub parts_are : (i : ℕ) → i < length program → (get_or sheet (sheet_record * i) 0 ≡ 0 → ⊥)
      → mark_in sheet (start + i) ≡ marked (work_at sheet i) (ret_at sheet i) (routine_at sheet i)
  parts_are i h g =
      let x = get_or list.marks i unmarked in
      marks_are (start + i)
      ∙ place_mark list.marks i
      ∙ mark_marked x (get_or program i 0) (λ e. g (first_byte i h ∙ e))
      ∙ sym (rw (sheet-byte i 1 h (omega arith), sheet-byte i 2 h (omega arith), sheet-byte i 4 h (omega arith), sheet-byte i 5 h (omega arith)))

  -- a record whose mark is 0
  free : (i : ℕ) → i < length program → get_or sheet (sheet_record * i) 0 ≡ 0 → get_or list.marks i unmarked ≡ unmarked
  free i h e = mark_unmarked (get_or list.marks i unmarked) (get_or program i 0) (sym (first_byte i h) ∙ e)

  -- a mark of the sheet is that of an address of the program
  pub goes_on_lem : (at w r q : ℕ) → mark_in sheet at ≡ marked w r q → GoesOn program (mark_in sheet) (at, marked w r q)
  goes_on_lem at w r q e = (marked_within program list.marks at w r q list.size (sym (marks_are at) ∙ e), e)

  -- a marked place is one of the program, and its record has its depths and its routine
  pub marked-inside : (i : ℕ) → Marks sheet (start + i) → i < length program
  marked-inside i m = omega (arith, (goes_on_lem (start + i) m.0 m.1 m.2 m.3).0.1)

  pub marked-low : (i : ℕ) → Marks sheet (start + i) → i < admit_most
  marked-low i m = omega (arith, marked-inside i m, list.most)

  pub marked_parts : (i : ℕ) → Marks sheet (start + i)
      → mark_in sheet (start + i) ≡ marked (work_at sheet i) (ret_at sheet i) (routine_at sheet i)
  marked_parts i m = parts_are i (marked-inside i m) (λ e.
      not_both (sym (sym m.3 ∙ marks_are (start + i) ∙ place_mark list.marks i ∙ free i (marked-inside i m) e)))

  -- and a passable way leads to it
  pub stands_at : (i : ℕ) → Marks sheet (start + i) → Stands program (place_at sheet i)
  stands_at i m =
      let l = list.ways (start + i) (work_at sheet i) (ret_at sheet i) (routine_at sheet i) (marked_parts i m) in
      (l.0, l.1, (omega arith, omega (arith, marked-inside i m)))

  -- the record of a marked place lies in the sheet
  pub record_inside : (i : ℕ) → Marks sheet (start + i) → sheet_record * i + 7 < length sheet
  record_inside i m = omega (arith, marked-inside i m, sheet-length)

  -- what `depths_after` asks
  pub place_inside : (i : ℕ) → Marks sheet (start + i)
      → (i < length program) × (length program ≤ admit_most) × (sheet_record * i + 7 < length sheet)
  place_inside i m = (marked-inside i m, list.most, record_inside i m)

  -- the routine of a marked place, and its floor
  module _ (i : ℕ) (m : Marks sheet (start + i)) where
    pub root : Rooted program sheet (routine_at sheet i) (ret_at sheet i)
    root = list.rooted (start + i) (work_at sheet i) (ret_at sheet i) (routine_at sheet i) (marked_parts i m)

    root_within : (start ≤ routine_at sheet i) × (routine_at sheet i < start + length program)
    root_within = (goes_on_lem (routine_at sheet i) root.work root.floor (routine_at sheet i) root.entered).0

    pub root_low : start ≤ routine_at sheet i
    root_low = root_within.0

    pub root_place : routine_at sheet i - start < length program
    root_place = omega (arith, root_within.0, root_within.1)

    pub floor-inside : sheet_record * (routine_at sheet i - start) + 7 < length sheet
    floor-inside = omega (arith, root_place, sheet-length)

    pub floor_is : ret_at sheet (routine_at sheet i - start) ≡ floor (mark_in sheet) (routine_at sheet i)
    floor_is =
        let q = routine_at sheet i in
        let e : start + (q - start) ≡ q = omega (arith, root_low) in
        let m = marked_parts (q - start) (root.work, root.floor, q, rw e root.entered) in
        sym (ap ret_of (rw e at m))

  -- there is room for it in the queue
  pub room : (i : ℕ) → i < length program → get_or sheet (sheet_record * i) 0 ≡ 0 → length queue < admit_most
  room i h e =
      omega (arith, count_room list.marks i (omega (arith, list.size)) (free i h e), list.counted, list.size, list.most)

  -- nothing more
  pub unextended : Extended program sheet queue sheet queue
  unextended = record { list = list; grown = λ at w r q e. e; kept = λ k h. refl; longer = omega arith }

  module _ (at w r q : ℕ) (led : Led program at w r q) where
    module _ (i : ℕ) (here : start + i ≡ at) (inside : i < length program) where
      -- it has a mark: this one, or another
      pub has_mark : (get_or sheet (sheet_record * i) 0 ≡ 0 → ⊥) → (b : Bool) → Agrees sheet i w r q b → Marking program sheet queue sheet queue at w r q b
      has_mark g true h = (unextended, rw (h.0, h.1, h.2, here) at (parts_are i inside g))
      has_mark g false h = (
        refl,
        λ x. let e : at - start ≡ i = omega arith in ((_, _, _, rw here at (parts_are i inside g)), rw e h),
      )

      -- it has no mark: it gets one, and a place in the queue
      module _ (sheet_after queue_after : List ℕ) (none : get_or sheet (sheet_record * i) 0 ≡ 0) (roots : Roots program sheet at r q)
          (marks : sheet_after ≡ with_mark sheet i w r q) (queues : queue_after ≡ queue ++ i ∷ []) where
        after : List Mark
        after = set list.marks i (marked w r q)

        within : i < length list.marks
        within = omega (arith, list.size)

        unset : get_or list.marks i unmarked ≡ unmarked
        unset = free i inside none

        wrote : sheet_after ≡ sheet_of after program
        unfolding after
        wrote = marks ∙ rw list.written (sheet-set list.marks program i w r q list.size inside)

        sized : length after ≡ length program
        unfolding after
        sized = simp length-set list.size

        in_after : (b : ℕ) → mark_in sheet_after b ≡ mark_at after b
        in_after b = ap (λ s. mark_in s b) wrote ∙ mark_in_lem after program sized b

        pub reached_mark : mark_in sheet_after at ≡ marked w r q
        unfolding after
        reached_mark = in_after at ∙ rw here at (added_mark list.marks i w r q within)

        stays : (b v s p : ℕ) → mark_in sheet b ≡ marked v s p → mark_in sheet_after b ≡ marked v s p
        unfolding after
        stays b v s p e =
            in_after b ∙ kept_mark list.marks i w r q within unset b v s p (sym (marks_are b) ∙ e)

        cases : (b v s p : ℕ) → mark_in sheet_after b ≡ marked v s p
            → (mark_in sheet b ≡ marked v s p) ⊎ ((b ≡ at) × (w ≡ v) × (r ≡ s) × (q ≡ p))
        unfolding after
        cases b v s p e = elim (mark_cases list.marks i w r q within b v s p (sym (in_after b) ∙ e)) [
          | inl f ↦ inl (marks_are b ∙ f)
          | inr f ↦ inr (f.0 ∙ here, f.1, f.2, f.3)
        ]

        longer_by_one : length queue_after ≡ length queue + 1
        longer_by_one = rw queues (length-append queue (i ∷ []))

        old-place : (k : ℕ) → k < length queue → get_or queue_after k 0 ≡ get_or queue k 0
        old-place k h = rw queues (get_or-append queue (i ∷ []) 0 k h)

        new-place : start + get_or queue_after (length queue) 0 ≡ at
        new-place = rw (queues, get_or-append_seam queue i [] 0) here

        -- the routine of the new mark
        rooted_now : Roots program sheet at r q → Rooted program sheet_after q r
        rooted_now (inl c) =
            record {
              led = inr (grown-called program sheet sheet_after stays q c.0);
              work = w;
              floor = r;
              entered = rw c.1 at reached_mark;
              low = omega arith;
            }
        rooted_now (inr o) = grown-rooted program sheet sheet_after stays q r o

        pub extended : Extended program sheet queue sheet_after queue_after
        unfolding after
        extended =
            record {
              list = record {
                most = list.most;
                marks = after;
                size = sized;
                written = wrote;
                counted = omega (arith, longer_by_one, list.counted, count_set list.marks i w r q within unset);
                first = stays start 0 0 start list.first;
                ways = λ b v s p e. elim (cases b v s p e) [
                  | inl f ↦ list.ways b v s p f
                  | inr f ↦ rw (f.0, ← f.1, ← f.2, ← f.3) led
                ];
                rooted = λ b v s p e. elim (cases b v s p e) [
                  | inl f ↦ grown-rooted program sheet sheet_after stays p s (list.rooted b v s p f)
                  | inr f ↦ rw (← f.2, ← f.3) (rooted_now roots)
                ];
                listed = λ k h. elim (ℕ_discrete k (length queue)) [
                  | yes e ↦ (w, r, q, rw (e, new-place) reached_mark)
                  | no e ↦
                      let m = list.listed k (omega (arith, longer_by_one)) in
                      (m.0, m.1, m.2, rw (old-place k (omega (arith, longer_by_one))) (stays _ _ _ _ m.3))
                ];
                covers = λ b v s p e. elim (cases b v s p e) [
                  | inl f ↦
                      let c = list.covers b v s p f in
                      (c.0, omega (arith, longer_by_one, c.1), c.2 ∙ sym (ap (λ j. start + j) (old-place c.0 c.1)))
                  | inr f ↦ (length queue, omega (arith, longer_by_one), f.0 ∙ sym new-place)
                ];
              };
              grown = stays;
              kept = old-place;
              longer = omega (arith, longer_by_one);
            }

-- ---- one outcome after another

-- one extension after another
pub extended_again : {program sheet queue : List ℕ} {sheet₁ queue₁ : List ℕ} {sheet₂ queue₂ : List ℕ}
    → Extended program sheet queue sheet₁ queue₁ → Extended program sheet₁ queue₁ sheet₂ queue₂
    → Extended program sheet queue sheet₂ queue₂
extended_again a b =
    record {
      list = b.list;
      grown = λ at w r q e. b.grown at w r q (a.grown at w r q e);
      kept = λ k h. b.kept k (omega (arith, a.longer)) ∙ a.kept k h;
      longer = omega (arith, a.longer, b.longer);
    }

-- a rule that fails
pub tells : (program sheet : List ℕ) (rule : Rule) (i j : ℕ) (f : Failing) → f ≡ record { rule = rule; at = i; other = j }
    → Told program sheet rule i j → ToldIn program sheet f
tells program sheet rule i j f e t = rw e t

-- what an outcome says, from what another one says
pub outcome_by : (program sheet queue : List ℕ) (sheet₁ queue₁ : List ℕ) (P Q : Type 0)
    → (Extended program sheet queue sheet₁ queue₁ → P → Q) → (n : Result (Unit {0}) Failing)
    → Outcome program sheet queue sheet₁ queue₁ P n → Outcome program sheet queue sheet₁ queue₁ Q n
outcome_by program sheet queue sheet₁ queue₁ P Q f (Err n) o = o
outcome_by program sheet queue sheet₁ queue₁ P Q f (Ok done) o = (o.0, f o.0 o.1)

-- after one extension
pub outcome_after : (program sheet queue : List ℕ) (sheet₁ queue₁ : List ℕ) (sheet₂ queue₂ : List ℕ) (P : Type 0)
    → Extended program sheet queue sheet₁ queue₁ → (n : Result (Unit {0}) Failing)
    → Outcome program sheet₁ queue₁ sheet₂ queue₂ P n → Outcome program sheet queue sheet₂ queue₂ P n
outcome_after program sheet queue sheet₁ queue₁ sheet₂ queue₂ P a (Err n) o = o
outcome_after program sheet queue sheet₁ queue₁ sheet₂ queue₂ P a (Ok done) o = (extended_again a o.0, o.1)
