-- Reasons at small programs: one that is true for each rule that a few bytes can break. Assumes nothing.
use mathlib.Core.Path.{refl}
use mathlib.Core.List.{List, [], ◌∷◌}
use Prim.Native.Nat.{ℕ, ◌+◌}
use native.Mathlib.Omega.{arith}
use lib.Dec.{T, ltb, ltb→lt, leb, leb→le}
use lib.ListN.{length}
use Rattle.model.specs.Bytes.Among.{here, there}
use Rattle.model.specs.Machine.{start}
use Rattle.model.specs.Admission.{all, rule_tests}
use Rattle.model.specs.Admission.Way.{begin, go, return}
use Rattle.model.specs.Reasons.{Passes, Passable, WayTo, Stands, True}
use Rattle.model.specs.declared.Place.{Place}
use Rattle.model.specs.declared.Reason.{Reason}
use Rattle.model.proofs.Computing.{admitting}
use Rattle.model.proofs.Tests.{one_of_lem}

abbrev place : (at work ret routine : ℕ) → Place
place at work ret routine = record { at = at; work = work; ret = ret; routine = routine }

-- where every way begins
abbrev first : Place
first = place start 0 0 start

-- what passes the tests passes
passes : (program : List ℕ) (at w r : ℕ) → T (leb start at) → T (all (rule_tests program at w r)) → Passes program at w r
unfolding rule_tests
passes program at w r l t =
    let tests = rule_tests program at w r in
    record {
      placed = leb→le _ _ l;
      inside = leb→le _ _ (one_of_lem tests 2 t);
      fine = one_of_lem tests 3 t;
      work = leb→le _ _ (one_of_lem tests 4 t);
      ret = leb→le _ _ (one_of_lem tests 5 t);
      work_top = leb→le _ _ (one_of_lem tests 6 t);
      ret_top = leb→le _ _ (one_of_lem tests 7 t);
    }

-- at a place in the program
stands : (program : List ℕ) (p : Place) (way : WayTo program p) → Passable way → T (leb start p.at) → T (ltb p.at (start + length program))
    → Stands program p
stands program p way passable low high = (way, passable, (leb→le _ _ low, ltb→lt _ _ high))

-- ---- one instruction

-- A0 00: LIT2 without its last byte
cut : True (0xA0 ∷ 0x00 ∷ []) (Reason.Cut first 3)
unfolding admitting
cut = (stands _ first begin tt tt tt, refl, omega arith)

-- 0C: JMP
forbidden : True (0x0C ∷ []) (Reason.Forbidden first)
unfolding admitting
forbidden = (stands _ first begin tt tt tt, tt)

-- 02: POP, 42: POPr
few_working : True (0x02 ∷ []) (Reason.FewWorking first 1)
unfolding admitting
few_working = (stands _ first begin tt tt tt, refl, omega arith)

few_return : True (0x42 ∷ []) (Reason.FewReturn first 1)
unfolding admitting
few_return = (stands _ first begin tt tt tt, refl, omega arith)

-- 6C: a return
return_in_0100 : True (0x6C ∷ []) (Reason.ReturnIn0100 first)
unfolding admitting
return_in_0100 = ((stands _ first begin tt tt tt, refl), refl)

-- ---- where it goes on

-- 40 01 00: JMI 0203
outside : True (0x40 ∷ 0x01 ∷ 0x00 ∷ []) (Reason.Outside first (place 0x0203 0 0 start))
unfolding admitting
outside = (stands _ first begin tt tt tt, (go begin here, (tt, passes _ _ _ _ tt tt), refl), λ x. omega (arith, x.1))

-- 0100 LIT 00, JCI 0107; 0105 LIT 01; 0107 BRK: the two ways to 0107
abbrev branch : List ℕ
branch = 0x80 ∷ 0x00 ∷ 0x20 ∷ 0x00 ∷ 0x02 ∷ 0x80 ∷ 0x01 ∷ 0x00 ∷ []

ways_differ_lem : True branch (Reason.WaysDiffer (place 0x0105 0 0 start) (place 0x0107 1 0 start) (place 0x0107 0 0 start))
unfolding admitting
ways_differ_lem = (
  stands branch (place 0x0105 0 0 start) (go (go begin here) here) ((tt, passes _ _ _ _ tt tt), passes _ _ _ _ tt tt) tt tt,
  (go (go (go begin here) here) here, (((tt, passes _ _ _ _ tt tt), passes _ _ _ _ tt tt), passes _ _ _ _ tt tt), refl),
  stands branch (place 0x0107 0 0 start) (go (go begin here) (there here)) ((tt, passes _ _ _ _ tt tt), passes _ _ _ _ tt tt) tt tt,
  refl,
  λ a. omega (arith, a.0),
)

-- ---- routines

-- 0100 JSI 0104; 0103 BRK; 0104 POPr
abbrev taking : List ℕ
taking = 0x60 ∷ 0x00 ∷ 0x01 ∷ 0x00 ∷ 0x42 ∷ []

below_floor : True taking (Reason.BelowFloor (place 0x0104 0 2 0x0104) 1 (place 0x0104 0 2 0x0104))
unfolding admitting
below_floor =
    let routine = stands taking (place 0x0104 0 2 0x0104) (go begin here) (tt, passes _ _ _ _ tt tt) tt tt in
    (routine, (λ e. omega (arith, e)), refl, (routine, refl, refl), omega arith)

-- 0100 JSI 0104; 0103 BRK; 0104 LITr 07; 0106 a return
abbrev leaving : List ℕ
leaving = 0x60 ∷ 0x00 ∷ 0x01 ∷ 0x00 ∷ 0xC0 ∷ 0x07 ∷ 0x6C ∷ []

off_floor : True leaving (Reason.ReturnOffFloor (place 0x0106 0 3 0x0104) (place 0x0104 0 2 0x0104))
unfolding admitting
off_floor = (
  (stands leaving (place 0x0106 0 3 0x0104) (go (go begin here) here) ((tt, passes _ _ _ _ tt tt), passes _ _ _ _ tt tt) tt tt, refl),
  (stands leaving (place 0x0104 0 2 0x0104) (go begin here) (tt, passes _ _ _ _ tt tt) tt tt, refl, refl),
  λ e. omega (arith, e),
)

-- 0100 LIT 00, JSI 0106; 0105 BRK; 0106 JCI 010A; 0109 a return; 010A LIT 01; 010C a return
abbrev returning : List ℕ
returning = 0x80 ∷ 0x00 ∷ 0x60 ∷ 0x00 ∷ 0x01 ∷ 0x00 ∷ 0x20 ∷ 0x00 ∷ 0x01 ∷ 0x6C ∷ 0x80 ∷ 0x01 ∷ 0x6C ∷ []

returns_differ_lem : True returning (Reason.ReturnsDiffer (place 0x010C 1 2 0x0106) (place 0x0109 0 2 0x0106))
unfolding admitting
returns_differ_lem = (
  (
    stands returning (place 0x010C 1 2 0x0106)
        (go (go (go (go begin here) here) (there here)) here)
        ((((tt, passes _ _ _ _ tt tt), passes _ _ _ _ tt tt), passes _ _ _ _ tt tt), passes _ _ _ _ tt tt)
        tt
        tt,
    refl,
  ),
  (
    stands returning (place 0x0109 0 2 0x0106)
        (go (go (go begin here) here) here)
        (((tt, passes _ _ _ _ tt tt), passes _ _ _ _ tt tt), passes _ _ _ _ tt tt)
        tt
        tt,
    refl,
  ),
  refl,
  λ e. omega (arith, e),
)

-- 0100 JMI 0104; 0103 a return; 0104 JSI 0103, which comes back to 0107
abbrev coming : List ℕ
coming = 0x40 ∷ 0x00 ∷ 0x01 ∷ 0x6C ∷ 0x60 ∷ 0xFF ∷ 0xFC ∷ []

back_outside : True coming (Reason.Outside (place 0x0104 0 0 start) (place 0x0107 0 0 start))
unfolding admitting
back_outside = (
  stands coming (place 0x0104 0 0 start) (go begin here) (tt, passes _ _ _ _ tt tt) tt tt,
  (
    return (go begin here) refl (go (go begin here) here) refl,
    ((tt, passes _ _ _ _ tt tt), passes _ _ _ _ tt tt, ((tt, passes _ _ _ _ tt tt), passes _ _ _ _ tt tt), passes _ _ _ _ tt tt),
    refl,
  ),
  λ x. omega (arith, x.1),
)
