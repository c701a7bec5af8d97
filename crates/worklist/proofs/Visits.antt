-- Laws of a visit: the rules at an address that is marked, for each of the ways in which `visit` ends. Assumes nothing.
use mathlib.Core.Path.{◌≡◌, refl, sym, ap, ◌∙◌}
use mathlib.Core.Bool.{Bool, true, false, cond}
use mathlib.Core.List.{List, [], ◌∷◌}
use Prim.Native.Nat.{ℕ, ◌+◌, ◌-◌, ◌*◌, ◌≤◌, ◌<◌}
use native.Mathlib.Decide.{ℕ_discrete}
use native.Mathlib.Omega.{arith}
use lib.Dec.{ltb}
use lib.ListN.{length, get_or}
use borrow.Author.Tests.{ltb-true, ltb-false}
use Rattle.model.specs.Bytes.{Every, Among}
use Rattle.model.specs.Bytes.Among.{here as first_of, there as later}
use Rattle.model.specs.Machine.{start}
use Rattle.model.specs.Instruction.{keep_mode, returning, taken_from, pushed_on, length_of}
use Rattle.model.specs.Admission.{admit_most, byte_at, Within, allowed, mark_after, after_of, target_of, successors, Way, GoesOn, floor, sheet_record, mark_in}
use Rattle.model.specs.Admission.Mark.{marked}
use Rattle.model.specs.Admission.Way.{go}
use Rattle.model.specs.Reasons.{Passes, Passable, came_from}
use Rattle.model.proofs.Computing.{decoding}
use Rattle.model.proofs.Exactness.{T_of}
use Rattle.rules.proofs.Instructions.{byte_is, after_brk, after_jmi, after_jci, after_jsi, after_return, after_other_lem}
use Rattle.worklist.specs.declared.Rule.{Rule}
use Rattle.worklist.specs.Worklist.{work_at, ret_at, routine_at, Has, Led, Marks, Obeyed, Rooted, Listed, Tested, Above, Extended, place_at, target_place, Lost, Rooting, Fails, Told}
use Rattle.worklist.proofs.Listed.{same_parts, grown-led, grown-floor, goes_on_lem, marked_parts, marked-inside, stands_at, sheet-length, root, root_low, root_place, floor-inside, floor_is, unextended, extended_again}

module _ (program sheet queue : List ℕ) (list : Listed program sheet queue) (i : ℕ) (here : Marks sheet (start + i)) where
  -- the place, its byte, its depths and its routine
  abbrev at : ℕ
  at = start + i

  abbrev byte : ℕ
  byte = get_or program i 0

  abbrev w : ℕ
  w = work_at sheet i

  abbrev r : ℕ
  r = ret_at sheet i

  abbrev q : ℕ
  q = routine_at sheet i

  pub parts : mark_in sheet at ≡ marked w r q
  parts = marked_parts program sheet queue list i here

  rooted : Rooted program sheet q r
  rooted = root program sheet queue list i here

  -- ---- a rule fails

  pub told : (rule : Rule) (j : ℕ) → j < length program → Fails program sheet rule i j → Told program sheet rule i j
  told rule j h f =
      record {
        most = list.most;
        size = sheet-length program sheet queue list;
        here = marked-inside program sheet queue list i here;
        there = h;
        stands = stands_at program sheet queue list i here;
        fails = f;
      }

  -- of no other return
  pub told_alone : (rule : Rule) → Fails program sheet rule i 0 → Told program sheet rule i 0
  told_alone rule f = told rule 0 (omega (arith, marked-inside program sheet queue list i here)) f

  -- its routine, by the routine's own address
  pub rooting : Rooting program sheet i
  rooting =
      let e : start + (q - start) ≡ q = omega (arith, root_low program sheet queue list i here) in
      let f : mark_in sheet (start + (q - start)) ≡ marked rooted.work rooted.floor q = rw e rooted.entered in
      let m : Marks sheet (start + (q - start)) = (rooted.work, rooted.floor, q, f) in
      record {
        low = root_low program sheet queue list i here;
        inside = root_place program sheet queue list i here;
        stands = stands_at program sheet queue list (q - start) m;
        itself = (same_parts (marked_parts program sheet queue list (q - start) m) f).2;
      }

  -- where the floor of its routine stands, and that the return depth is not below it
  pub floor_asks : (p : ℕ) → p ≡ q → (start ≤ p) × (sheet_record * (p - start) + 2 < length sheet) × (ret_at sheet (p - start) ≤ r)
  floor_asks p e =
      let f : floor (mark_in sheet) q ≡ rooted.floor = rw rooted.entered in (
        rw e (root_low program sheet queue list i here),
        rw e (omega (arith, floor-inside program sheet queue list i here)),
        rw e (omega (arith, floor_is program sheet queue list i here, rooted.low)),
      )

  -- what it takes lies below the floor of its routine, or above
  module _ (p : ℕ) (p-is : p ≡ q) (b : Bool) (b-is : b ≡ ltb r (ret_at sheet (p - start) + taken_from returning byte)) where
    least_is : ret_at sheet (p - start) ≡ floor (mark_in sheet) q
    least_is = ap (λ a. ret_at sheet (a - start)) p-is ∙ floor_is program sheet queue list i here

    pub too_low : (byte ≡ 0x6C → ⊥) → b ≡ true → Told program sheet Rule.BelowFloor i 0
    too_low other h =
        told_alone Rule.BelowFloor
        (other, rooting, rw p-is at (ltb-true r (ret_at sheet (p - start) + taken_from returning byte) (sym b-is ∙ h)))

    pub is_above : b ≡ false → Above program sheet i
    is_above h = omega (arith, least_is, ltb-false r (ret_at sheet (p - start) + taken_from returning byte) (sym b-is ∙ h))

  -- JSI takes none
  pub call-above : byte ≡ 0x60 → Above program sheet i
  unfolding decoding
  call-above e =
      let f : floor (mark_in sheet) q ≡ rooted.floor = rw rooted.entered in
      let n : taken_from returning byte ≡ 0 = rw e in
      omega (arith, rooted.low)

  -- ---- the rules of depths hold, but the last of them

  module _ (work ret : ℕ) (t : Tested program sheet i work ret) where
    mark_is : (p : ℕ) → mark_after (byte_at program at) w r p ≡ marked work ret p
    mark_is p = rw (byte_is program i, t.works, t.rets)

    -- ---- the rules hold in a sheet with the marks of this one, and those of the successors
    pub obeyed : (more : List ℕ) → ((b v s p : ℕ) → mark_in sheet b ≡ marked v s p → mark_in more b ≡ marked v s p)
        → Every (GoesOn program (mark_in more)) (successors program at w r q)
        → ((byte ≡ 0x6C → ⊥) → Above program sheet i)
        → (byte ≡ 0x6C → (r ≡ floor (mark_in sheet) q) × (q ≡ start → ⊥)) → Obeyed program more at
    obeyed more grown every above low v s p e =
        let d = same_parts (grown at w r q parts) e in
        let same = grown-floor program sheet more grown q r rooted in
        rw (← d.0, ← d.1, ← d.2)
        record {
          work_low = t.work_low;
          ret_low = t.ret_low;
          placed = omega arith;
          inside = rw (byte_is program i) (omega (arith, t.whole));
          fine = rw (byte_is program i) (T_of (allowed byte) t.fine);
          work = rw (byte_is program i) t.holds_work;
          ret = rw (byte_is program i) t.holds_ret;
          work_top = rw (byte_is program i) (omega (arith, t.works, t.work_top));
          ret_top = rw (byte_is program i) (omega (arith, t.rets, t.ret_top));
          on = every;
          routine = grown-led program sheet more grown q rooted.led;
          above = λ n. rw (byte_is program i, same) (above (λ f. n (byte_is program i ∙ f)));
          low = λ f. rw same (low (sym (byte_is program i) ∙ f)).0;
          inner = λ f. (low (sym (byte_is program i) ∙ f)).1;
        }

    -- ---- where it goes on

    -- JCI, JMI and JSI have three bytes
    three : (b : ℕ) → length_of b ≡ 3 → byte ≡ b
        → (length_of (byte_at program at) ≡ 3) × (i + 3 ≤ length program) × (length program ≤ admit_most)
    three b l e =
        let m : length_of byte ≡ 3 = ap (λ x. length_of x) e ∙ l in
        (ap (λ x. length_of x) (byte_is program i) ∙ m, omega (arith, t.whole), list.most)

    pub jci_inside : byte ≡ 0x20 → (length_of (byte_at program at) ≡ 3) × (i + 3 ≤ length program) × (length program ≤ admit_most)
    unfolding decoding
    jci_inside = three 0x20 refl

    pub jmi_inside : byte ≡ 0x40 → (length_of (byte_at program at) ≡ 3) × (i + 3 ≤ length program) × (length program ≤ admit_most)
    unfolding decoding
    jmi_inside = three 0x40 refl

    pub jsi_inside : byte ≡ 0x60 → (length_of (byte_at program at) ≡ 3) × (i + 3 ≤ length program) × (length program ≤ admit_most)
    unfolding decoding
    jsi_inside = three 0x60 refl

    -- the successors, by the byte
    jumps : byte ≡ 0x40 → successors program at w r q ≡ ((target_of program at, marked work ret q) ∷ [])
    jumps e = rw (← mark_is) (after_jmi program at w r q (byte_is program i ∙ e))

    calls : byte ≡ 0x60 → successors program at w r q ≡ ((target_of program at, marked work ret (target_of program at)) ∷ [])
    calls e = rw (← mark_is) (after_jsi program at w r q (byte_is program i ∙ e))

    -- it passes
    pub passes : Passes program at w r
    passes =
        record {
          placed = omega arith;
          inside = rw (byte_is program i) (omega (arith, t.whole));
          fine = rw (byte_is program i) (T_of (allowed byte) t.fine);
          work = rw (byte_is program i) t.holds_work;
          ret = rw (byte_is program i) t.holds_ret;
          work_top = rw (byte_is program i) (omega (arith, t.works, t.work_top));
          ret_top = rw (byte_is program i) (omega (arith, t.rets, t.ret_top));
        }

    -- so each of them is on a passable way from it
    on : (to v s p : ℕ) → Among (to, marked v s p) (successors program at w r q)
        → (way : Way program to v s p) × Passable way × (came_from way ≡ (at, marked w r q))
    on to v s p m = let l = list.ways at w r q parts in (go l.0 m, (l.1, passes), refl)

    led : (to v s p : ℕ) → Among (to, marked v s p) (successors program at w r q) → Led program to v s p
    led to v s p m = let l = on to v s p m in (l.0, l.1)

    -- and one that is astray is where it goes on
    lost : (to v s p : ℕ) → Among (to, marked v s p) (successors program at w r q)
        → (Within program to → Marks sheet to × (Has sheet (to - start) v s p → ⊥))
        → Lost program sheet (place_at sheet i) (record { at = to; work = v; ret = s; routine = p })
    lost to v s p m other =
        record {
          goes = on to v s p m;
          other = λ x.
              let e : start + (to - start) ≡ to = omega (arith, x.0) in
              let o = other x in
              (stands_at program sheet queue list (to - start) (rw e o.0), λ a. o.1 (sym a.0, sym a.1, sym a.2));
        }

    -- the target of a call, of a jump
    pub called_among : byte ≡ 0x60 → (a : ℕ) → a ≡ target_of program at → Among (a, marked work ret a) (successors program at w r q)
    called_among e a f = rw (f, calls e) first_of

    pub jumped_among : byte ≡ 0x40 → (a : ℕ) → a ≡ target_of program at → (p : ℕ) → p ≡ q → Among (a, marked work ret p) (successors program at w r q)
    jumped_among e a f p g = rw (f, g, jumps e) first_of

    pub led-call : byte ≡ 0x60 → (a : ℕ) → a ≡ target_of program at → Led program a work ret a
    led-call e a f = led a work ret a (called_among e a f)

    pub led-jump : byte ≡ 0x40 → (a : ℕ) → a ≡ target_of program at → (p : ℕ) → p ≡ q → Led program a work ret p
    led-jump e a f p g = led a work ret p (jumped_among e a f p g)

    pub target_astray : (sheet₁ : List ℕ) (a p : ℕ) → a ≡ target_of program at → p ≡ (target_place program sheet i).routine → length_of byte ≡ 3
        → Among (a, marked work ret p) (successors program at w r q)
        → (sheet₁ ≡ sheet) × (Within program a → Marks sheet a × (Has sheet (a - start) work ret p → ⊥)) → Told program sheet₁ Rule.Target i 0
    target_astray sheet₁ a p f g l m o =
        rw o.0 (told_alone Rule.Target (passes, l, rw (f, g, t.works, t.rets) at (lost a work ret p m o.1)))

    pub jump_astray : byte ≡ 0x40 → (sheet₁ : List ℕ) (a : ℕ) → a ≡ target_of program at → (p : ℕ) → p ≡ q
        → (sheet₁ ≡ sheet) × (Within program a → Marks sheet a × (Has sheet (a - start) work ret p → ⊥)) → Told program sheet₁ Rule.Target i 0
    unfolding decoding
    jump_astray e sheet₁ a f p g = target_astray sheet₁ a p f (g ∙ rw e) (rw e) (jumped_among e a f p g)

    -- a 6C at the floor
    pub return_obeyed : byte ≡ 0x6C → r ≡ floor (mark_in sheet) q → (q ≡ start → ⊥)
        → (more : List ℕ) → ((b v s p : ℕ) → mark_in sheet b ≡ marked v s p → mark_in more b ≡ marked v s p) → Obeyed program more at
    return_obeyed e low inner more grown =
        obeyed more grown (rw (after_return program at w r q (byte_is program i ∙ e)) tt) (λ n. absurd (n e)) (λ f. (low, inner))

    module _ (above : Above program sheet i) where
      -- what it leaves of the return stack is not below the floor
      left : (keep : Bool) (n m : ℕ) → floor (mark_in sheet) q + n ≤ r → floor (mark_in sheet) q ≤ r - cond keep 0 n + m
      left true n m h = omega arith
      left false n m h = omega arith

      pub root_after : (p : ℕ) → p ≡ q → Rooted program sheet p ret
      root_after p e =
          let f : floor (mark_in sheet) q ≡ rooted.floor = rw rooted.entered in
          let l = left (keep_mode byte) (taken_from returning byte) (pushed_on returning byte) above in
          rw e record { led = rooted.led; work = rooted.work; floor = rooted.floor; entered = rooted.entered; low = omega (arith, t.rets) }

      -- a JSI whose target has its mark
      pub call_obeyed : byte ≡ 0x60 → (sheet₁ queue₁ : List ℕ) → Listed program sheet₁ queue₁
          → ((b v s p : ℕ) → mark_in sheet b ≡ marked v s p → mark_in sheet₁ b ≡ marked v s p)
          → (a : ℕ) → a ≡ target_of program at → mark_in sheet₁ a ≡ marked work ret a → Obeyed program sheet₁ at
      call_obeyed e sheet₁ queue₁ list₁ grown a f m =
          obeyed sheet₁ grown
          (rw (calls e, ← f) (goes_on_lem program sheet₁ queue₁ list₁ a work ret a m, tt))
          (λ n. above)
          (λ g. let z : ◌≡◌ {A = ℕ} 0x60 0x6C = sym e ∙ g in absurd (omega arith))

      -- ---- another instruction: the next place, and the routine
      module _ (after p : ℕ) (a-is : after ≡ i + length_of byte) (p-is : p ≡ q) (not-jsi : byte ≡ 0x60 → ⊥) (not-return : byte ≡ 0x6C → ⊥) where
        next_is : after_of program at ≡ start + after
        unfolding after_of
        next_is = rw (byte_is program i) (omega (arith, a-is))

        ends : byte ≡ 0x00 → successors program at w r q ≡ []
        ends e = after_brk program at w r q (byte_is program i ∙ e)

        branches : byte ≡ 0x20
            → successors program at w r q ≡ ((start + after, marked work ret p) ∷ (target_of program at, marked work ret p) ∷ [])
        branches e = rw (p-is, ← mark_is, ← next_is) (after_jci program at w r q (byte_is program i ∙ e))

        goes : (byte ≡ 0x00 → ⊥) → (byte ≡ 0x40 → ⊥) → (byte ≡ 0x20 → ⊥)
            → successors program at w r q ≡ ((start + after, marked work ret p) ∷ [])
        goes brk jmi jci =
            let other : (b : ℕ) → (byte ≡ b → ⊥) → byte_at program at ≡ b → ⊥ = λ b h e. h (sym (byte_is program i) ∙ e) in
            rw (p-is, ← mark_is, ← next_is)
            (after_other_lem program at w r q (other _ brk) (other _ jci) (other _ jmi) (other _ not-jsi) (other _ not-return))

        pub branched_among : byte ≡ 0x20 → (a : ℕ) → a ≡ target_of program at → Among (a, marked work ret p) (successors program at w r q)
        branched_among e a f = rw (f, branches e) (later first_of)

        next_among : (byte ≡ 0x00 → ⊥) → (byte ≡ 0x40 → ⊥) → Among (start + after, marked work ret p) (successors program at w r q)
        next_among brk jmi = by (ℕ_discrete byte 0x20)
          where
            by : Dec (byte ≡ 0x20) → Among (start + after, marked work ret p) (successors program at w r q)
            by (yes e) = rw (branches e) first_of
            by (no e) = rw (goes brk jmi e) first_of

        pub led_branch : byte ≡ 0x20 → (a : ℕ) → a ≡ target_of program at → Led program a work ret p
        led_branch e a f = led a work ret p (branched_among e a f)

        pub led-next : (byte ≡ 0x00 → ⊥) → (byte ≡ 0x40 → ⊥) → Led program (start + after) work ret p
        led-next brk jmi = led (start + after) work ret p (next_among brk jmi)

        pub next_astray : (byte ≡ 0x00 → ⊥) → (byte ≡ 0x40 → ⊥) → (sheet₁ : List ℕ)
            → (sheet₁ ≡ sheet) × (Within program (start + after) → Marks sheet (start + after) × (Has sheet (start + after - start) work ret p → ⊥))
            → Told program sheet₁ Rule.After i 0
        next_astray brk jmi sheet₁ o =
            rw o.0
            (told_alone Rule.After (passes, rw (a-is, p-is, t.works, t.rets) at (lost (start + after) work ret p (next_among brk jmi) o.1)))

        other_obeyed : (more : List ℕ) → ((b v s p : ℕ) → mark_in sheet b ≡ marked v s p → mark_in more b ≡ marked v s p)
            → Every (GoesOn program (mark_in more)) (successors program at w r q) → Obeyed program more at
        other_obeyed more grown every = obeyed more grown every (λ n. above) (λ f. absurd (not-return f))

        pub brk_ends : byte ≡ 0x00 → Extended program sheet queue sheet queue × Obeyed program sheet at
        brk_ends e = (unextended program sheet queue list, other_obeyed sheet (λ b v s p f. f) (rw (ends e) tt))

        -- one successor
        one : (sheet₁ queue₁ : List ℕ) (a : ℕ) → successors program at w r q ≡ ((a, marked work ret p) ∷ [])
            → Extended program sheet queue sheet₁ queue₁ × (mark_in sheet₁ a ≡ marked work ret p)
            → Extended program sheet queue sheet₁ queue₁ × Obeyed program sheet₁ at
        one sheet₁ queue₁ a e o =
            (o.0, other_obeyed sheet₁ o.0.grown (rw e (goes_on_lem program sheet₁ queue₁ o.0.list a work ret p o.1, tt)))

        pub jump_ends : (sheet₁ queue₁ : List ℕ) → byte ≡ 0x40 → (a : ℕ) → a ≡ target_of program at
            → Extended program sheet queue sheet₁ queue₁ × (mark_in sheet₁ a ≡ marked work ret p)
            → Extended program sheet queue sheet₁ queue₁ × Obeyed program sheet₁ at
        jump_ends sheet₁ queue₁ e a f = one sheet₁ queue₁ a (rw (f, p-is) (jumps e))

        pub next_ends : (sheet₁ queue₁ : List ℕ) → (byte ≡ 0x00 → ⊥) → (byte ≡ 0x40 → ⊥) → (byte ≡ 0x20 → ⊥)
            → Extended program sheet queue sheet₁ queue₁ × (mark_in sheet₁ (start + after) ≡ marked work ret p)
            → Extended program sheet queue sheet₁ queue₁ × Obeyed program sheet₁ at
        next_ends sheet₁ queue₁ brk jmi jci = one sheet₁ queue₁ (start + after) (goes brk jmi jci)

        -- two of them, one after the other
        pub branch_ends : (sheet₁ queue₁ : List ℕ) → byte ≡ 0x20
            → Extended program sheet queue sheet₁ queue₁ × (mark_in sheet₁ (start + after) ≡ marked work ret p)
            → (sheet₂ queue₂ : List ℕ) (b : ℕ) → b ≡ target_of program at
            → Extended program sheet₁ queue₁ sheet₂ queue₂ × (mark_in sheet₂ b ≡ marked work ret p)
            → Extended program sheet queue sheet₂ queue₂ × Obeyed program sheet₂ at
        branch_ends sheet₁ queue₁ e o sheet₂ queue₂ b g x =
            let both = extended_again o.0 x.0 in
            let there = goes_on_lem program sheet₂ queue₂ x.0.list in (
              both,
              other_obeyed sheet₂ both.grown
                  (rw (branches e, ← g) (there (start + after) work ret p (x.0.grown (start + after) work ret p o.1), (there b work ret p x.1, tt))),
            )

-- ---- with more marks

module _ (program sheet queue : List ℕ) (list : Listed program sheet queue) (i : ℕ) (here : Marks sheet (start + i))
    (sheet₁ queue₁ : List ℕ) (more : Extended program sheet queue sheet₁ queue₁) where
  pub here-more : Marks sheet₁ (start + i)
  here-more = (here.0, here.1, here.2, more.grown _ _ _ _ here.3)

  -- the record of a marked place stays
  pub same_record : Has sheet₁ i (work_at sheet i) (ret_at sheet i) (routine_at sheet i)
  same_record =
      same_parts (marked_parts program sheet₁ queue₁ more.list i here-more)
      (more.grown _ _ _ _ (marked_parts program sheet queue list i here))

  tested_more : (work ret : ℕ) → Tested program sheet i work ret → Tested program sheet₁ i work ret
  tested_more work ret t =
      record {
        work_low = rw same_record.0 t.work_low;
        ret_low = rw same_record.1 t.ret_low;
        fine = t.fine;
        whole = t.whole;
        holds_work = rw same_record.0 t.holds_work;
        works = rw same_record.0 t.works;
        work_top = t.work_top;
        holds_ret = rw same_record.1 t.holds_ret;
        rets = rw same_record.1 t.rets;
        ret_top = t.ret_top;
      }

  -- the second of two successors is astray, after the first one got its mark
  pub branch_astray : (work ret : ℕ) (t : Tested program sheet i work ret) (above : Above program sheet i) (after p : ℕ)
      → after ≡ i + length_of (get_or program i 0) → p ≡ routine_at sheet i → (get_or program i 0 ≡ 0x60 → ⊥) → (get_or program i 0 ≡ 0x6C → ⊥)
      → get_or program i 0 ≡ 0x20 → (sheet₂ : List ℕ) (b : ℕ) → b ≡ target_of program (start + i)
      → (sheet₂ ≡ sheet₁) × (Within program b → Marks sheet₁ b × (Has sheet₁ (b - start) work ret p → ⊥)) → Told program sheet₂ Rule.Target i 0
  unfolding decoding
  branch_astray work ret t above after p a-is p-is jsi return e sheet₂ b g o =
      let d = same_record in
      target_astray program sheet₁ queue₁ more.list i here-more work ret (tested_more work ret t) sheet₂ b p g
      (p-is ∙ rw (e, d.2))
      (rw e)
      (rw (d.0, d.1, d.2) (branched_among program sheet queue list i here work ret t above after p a-is p-is jsi return e b g))
      o
