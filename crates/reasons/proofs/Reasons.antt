-- Laws of reasons: for each rule that fails, that its reason is true. Assumes nothing.
use mathlib.Core.Path.{◌≡◌, refl, sym, ap, ◌∙◌}
use mathlib.Core.Bool.{Bool, true, false, ◌&&◌, true≢false}
use mathlib.Core.Logic.{◌⊎◌, inl, inr}
use mathlib.Core.List.{List}
use Prim.Native.Nat.{ℕ, ◌+◌, ◌-◌, ◌*◌, ◌≤◌, ◌<◌}
use native.Mathlib.Decide.{dec_lt}
use native.Mathlib.Omega.{arith}
use lib.Dec.{eqb}
use lib.ListN.{length, get_or}
use borrow.Author.Tests.{eqb-true, ne_eqb}
use Rattle.model.specs.Machine.{start}
use Rattle.model.specs.Instruction.{working, returning, taken_from, length_of}
use Rattle.model.specs.Admission.{admit_most, byte_at, target_of, depth_after, Assignable, sheet_record}
use Rattle.model.specs.Reasons.{Passes, Stands, True}
use Rattle.model.specs.declared.Place.{Place}
use Rattle.model.specs.declared.Reason.{Reason}
use Rattle.model.proofs.Reasons.{true_refutes}
use Rattle.rules.proofs.Instructions.{byte_is}
use Rattle.worklist.specs.Worklist.{work_at, ret_at, routine_at, place_at, after_place, target_place, back_place, Lost, Rooting, Fails, Told}
use Rattle.worklist.specs.declared.Rule.{Rule}
use Rattle.reasons.specs.Next.{next_place}

both : (a b : Bool) → (a && b) ≡ true → (a ≡ true) × (b ≡ true)
both true b e = (refl, e)
both false b e = absurd (true≢false (sym e))

-- ---- where it goes on

module _ (program sheet : List ℕ) (here next : Place) (stands : Stands program here) (lost : Lost program sheet here next) where
  pub outside_low : next.at < start → True program (Reason.Outside here next)
  outside_low h = (stands, lost.goes, λ x. omega (arith, x.0))

  pub outside_high : start ≤ next.at → (i : ℕ) → i ≡ next.at - start → length program ≤ i → True program (Reason.Outside here next)
  outside_high l i e h = (stands, lost.goes, λ x. omega (arith, x.1))

  pub differ : start ≤ next.at → (i : ℕ) → i ≡ next.at - start → i < length program → (p : Place) → p ≡ place_at sheet i
      → True program (Reason.WaysDiffer here next p)
  differ l i e h p f =
      let o = lost.other (l, omega arith) in
      let z : next.at ≡ start + i = omega arith in
      rw f (stands, lost.goes, rw e o.0, z, rw e o.1)

-- ---- the rule that fails

module _ (program sheet : List ℕ) (rule : Rule) (i j : ℕ) (told : Told program sheet rule i j) where
  abbrev byte : ℕ
  byte = get_or program i 0

  pub place_asks : (k : ℕ) → k < length program → (k < admit_most) × (sheet_record * k + 7 < length sheet)
  place_asks k h = (omega (arith, told.most), omega (arith, told.size))

  pub here_asks : (i < admit_most) × (sheet_record * i + 7 < length sheet)
  here_asks = place_asks i told.here

  pub there_asks : (j < admit_most) × (sheet_record * j + 7 < length sheet)
  there_asks = place_asks j told.there

  fails : (this : Rule) → rule ≡ this → Fails program sheet this i j
  fails this e = rw e at told.fails

  module _ (p : Place) (p-is : p ≡ place_at sheet i) where
    stands : Stands program p
    stands = rw p-is told.stands

    byte-at : byte_at program p.at ≡ byte
    byte-at = ap (λ x. byte_at program x.at) p-is ∙ byte_is program i

    work_is_lem : p.work ≡ work_at sheet i
    work_is_lem = ap (λ x. x.work) p-is

    ret_is_lem : p.ret ≡ ret_at sheet i
    ret_is_lem = ap (λ x. x.ret) p-is

    routine_is : p.routine ≡ routine_at sheet i
    routine_is = ap (λ x. x.routine) p-is

    pub in_0100 : (eqb byte 0x6C && eqb p.routine start) ≡ true → True program (Reason.ReturnIn0100 p)
    in_0100 e =
        let f = both (eqb byte 0x6C) (eqb p.routine start) e in
        ((stands, byte-at ∙ eqb-true byte 0x6C f.0), eqb-true p.routine start f.1)

    pub forbidden : rule ≡ Rule.Forbidden → True program (Reason.Forbidden p)
    forbidden e = (stands, rw byte-at (fails Rule.Forbidden e))

    pub cut : rule ≡ Rule.Cut → (n : ℕ) → n ≡ length_of byte → True program (Reason.Cut p n)
    cut e n f =
        let at-is : p.at ≡ start + i = ap (λ x. x.at) p-is in
        (stands, rw byte-at f, omega (arith, fails Rule.Cut e))

    pub few_working : rule ≡ Rule.FewWorking → (n : ℕ) → n ≡ taken_from working byte → True program (Reason.FewWorking p n)
    few_working e n f = (stands, rw byte-at f, omega (arith, work_is_lem, fails Rule.FewWorking e))

    pub few_return : rule ≡ Rule.FewReturn → (n : ℕ) → n ≡ taken_from returning byte → True program (Reason.FewReturn p n)
    few_return e n f = (stands, rw byte-at f, omega (arith, ret_is_lem, fails Rule.FewReturn e))

    -- the depths after it are those of the table
    pub working_asks : rule ≡ Rule.ManyWorking → taken_from working byte ≤ p.work
    working_asks e = rw work_is_lem (fails Rule.ManyWorking e).0

    pub many_working : rule ≡ Rule.ManyWorking → (n : ℕ) → n ≡ depth_after working byte p.work → True program (Reason.ManyWorking p n)
    many_working e n f = (stands, rw byte-at f, rw (f, work_is_lem) (fails Rule.ManyWorking e).1)

    pub return_asks : rule ≡ Rule.ManyReturn → taken_from returning byte ≤ p.ret
    return_asks e = rw ret_is_lem (fails Rule.ManyReturn e).0

    pub many_return : rule ≡ Rule.ManyReturn → (n : ℕ) → n ≡ depth_after returning byte p.ret → True program (Reason.ManyReturn p n)
    many_return e n f = (stands, rw byte-at f, rw (f, ret_is_lem) (fails Rule.ManyReturn e).1)

    -- the routine's own address
    module _ (root : Rooting program sheet i) where
      root_low : start ≤ p.routine
      root_low = rw routine_is root.low

      root_asks : (k : ℕ) → k ≡ p.routine - start → (k < admit_most) × (sheet_record * k + 7 < length sheet)
      root_asks k e = place_asks k (omega (arith, root.inside, routine_is))

    pub floor-low : rule ≡ Rule.BelowFloor → start ≤ p.routine
    floor-low e = root_low (fails Rule.BelowFloor e).1

    pub floor_asks : rule ≡ Rule.BelowFloor → (k : ℕ) → k ≡ p.routine - start → (k < admit_most) × (sheet_record * k + 7 < length sheet)
    floor_asks e = root_asks (fails Rule.BelowFloor e).1

    pub leave_low : rule ≡ Rule.ReturnOffFloor → start ≤ p.routine
    leave_low e = root_low (fails Rule.ReturnOffFloor e).1

    pub leave_asks : rule ≡ Rule.ReturnOffFloor → (k : ℕ) → k ≡ p.routine - start → (k < admit_most) × (sheet_record * k + 7 < length sheet)
    leave_asks e = root_asks (fails Rule.ReturnOffFloor e).1

    module _ (k : ℕ) (k-is : k ≡ p.routine - start) (q : Place) (q-is : q ≡ place_at sheet k) where
      q_at : q ≡ place_at sheet (routine_at sheet i - start)
      q_at = q-is ∙ ap (place_at sheet) (k-is ∙ ap (λ r. r - start) routine_is)

      entry : Rooting program sheet i → Stands program q × (q.at ≡ p.routine) × (q.routine ≡ p.routine)
      entry root = (
        rw q_at root.stands,
        ap (λ x. x.at) q_at ∙ omega (arith, root.low, routine_is),
        ap (λ x. x.routine) q_at ∙ root.itself ∙ sym routine_is,
      )

      pub below_floor : rule ≡ Rule.BelowFloor → (n : ℕ) → n ≡ taken_from returning byte → True program (Reason.BelowFloor p n q)
      below_floor e n f =
          let x = fails Rule.BelowFloor e in
          (stands, (λ g. x.0 (sym byte-at ∙ g)), rw byte-at f, entry x.1, omega (arith, x.2, ret_is_lem, ap (λ y. y.ret) q_at))

      pub off_floor : rule ≡ Rule.ReturnOffFloor → True program (Reason.ReturnOffFloor p q)
      off_floor e =
          let x = fails Rule.ReturnOffFloor e in
          ((stands, byte-at ∙ x.0), entry x.1, λ g. x.2 (sym ret_is_lem ∙ g ∙ ap (λ y. y.ret) q_at))

    pub differing : rule ≡ Rule.ReturnsDiffer → (q : Place) → q ≡ place_at sheet j → True program (Reason.ReturnsDiffer p q)
    differing e q q-is =
        let x = fails Rule.ReturnsDiffer e in (
          (stands, byte-at ∙ x.0),
          (rw q-is x.2, ap (λ y. byte_at program y.at) q-is ∙ byte_is program j ∙ x.1),
          routine_is ∙ x.3 ∙ sym (ap (λ y. y.routine) q-is),
          λ g. x.4 (sym work_is_lem ∙ g ∙ ap (λ y. y.work) q-is),
        )

    -- ---- it goes on where it is astray

    -- the depths after it
    abbrev Asks : Type 0
    Asks =
        (taken_from working byte ≤ p.work) × (taken_from returning byte ≤ p.ret) × (depth_after working byte p.work ≤ 255) × (depth_after returning byte p.ret ≤ 255)

    next_asks : Passes program (start + i) (work_at sheet i) (ret_at sheet i) → Asks
    next_asks x = rw (work_is_lem, ret_is_lem, ← byte_is program i) (x.work, x.ret, x.work_top, x.ret_top)

    pub after_asks : rule ≡ Rule.After → Asks
    after_asks e = next_asks (fails Rule.After e).0

    pub target_asks : rule ≡ Rule.Target → Asks
    target_asks e = next_asks (fails Rule.Target e).0

    -- the instruction lies in the program
    pub after_inside : rule ≡ Rule.After → i + length_of byte ≤ length program
    after_inside e = let x = (fails Rule.After e).0 in omega (arith, rw (byte_is program i) at x.inside)

    pub target-inside : rule ≡ Rule.Target
        → (length_of (byte_at program (start + i)) ≡ 3) × (i + 3 ≤ length program) × (length program ≤ admit_most)
    target-inside e =
        let x = fails Rule.Target e in
        let l : length_of (byte_at program (start + i)) ≡ 3 = rw (byte_is program i) x.1 in
        (l, omega (arith, x.0.inside), told.most)

    pub back_inside : rule ≡ Rule.Back → i + 3 ≤ length program
    back_inside e = (fails Rule.Back e).0

    abbrev Lostly : Place → Type 0
    Lostly q =
        (length program ≤ admit_most) × (length sheet ≡ sheet_record * length program) × Stands program p × Lost program sheet p q

    lostly : (q next : Place) → q ≡ next → Lost program sheet (place_at sheet i) next → Lostly q
    lostly q next e l = (told.most, told.size, stands, rw (e, p-is) l)

    pub after_lost : rule ≡ Rule.After → (n at : ℕ) → n ≡ length_of byte → at ≡ start + (i + n) → (q : Place)
        → q ≡ next_place byte p.work p.ret at p.routine → Lostly q
    after_lost e n at f g q h =
        lostly q (after_place program sheet i) (rw (g, f, work_is_lem, ret_is_lem, routine_is) at h) (fails Rule.After e).1

    pub target_lost : rule ≡ Rule.Target → (at r : ℕ) → at ≡ target_of program (start + i) → r ≡ (target_place program sheet i).routine → (q : Place)
        → q ≡ next_place byte p.work p.ret at r → Lostly q
    target_lost e at r f g q h =
        lostly q (target_place program sheet i) (rw (f, g, work_is_lem, ret_is_lem) at h) (fails Rule.Target e).2

    -- the routine at its target
    pub target-routine : (at r : ℕ) → at ≡ target_of program (start + i) → ((byte ≡ 0x60) × (r ≡ at)) ⊎ ((byte ≡ 0x60 → ⊥) × (r ≡ p.routine))
        → r ≡ (target_place program sheet i).routine
    target-routine at r f (inl x) = x.1 ∙ f ∙ rw x.0
    target-routine at r f (inr x) = x.1 ∙ rw (ne_eqb byte 0x60 x.0) routine_is

    pub back_lost : rule ≡ Rule.Back → (q : Place) → q ≡ place_at sheet j
        → Lostly (record { at = start + (i + 3); work = q.work; ret = p.ret; routine = p.routine })
    back_lost e q q-is =
        lostly _ (back_place sheet i j) (rw (q-is, ret_is_lem, routine_is)) (fails Rule.Back e).1

-- ---- a rule that fails has a reason, so there is no assignment

lost_reason : (program sheet : List ℕ) (here next : Place) → Stands program here → Lost program sheet here next → (r : Reason) × True program r
lost_reason program sheet here next stands lost = elim (dec_lt next.at start) [
  | yes h ↦ (Reason.Outside here next, outside_low program sheet here next stands lost h)
  | no h ↦ elim (dec_lt (next.at - start) (length program)) [
    | yes k ↦ (
      Reason.WaysDiffer here next (place_at sheet (next.at - start)),
      differ program sheet here next stands lost (omega arith) (next.at - start) refl k (place_at sheet (next.at - start)) refl,
    )
    | no k ↦ (Reason.Outside here next, outside_high program sheet here next stands lost (omega arith) (next.at - start) refl (omega arith))
  ]
]

pub some_reason : (program sheet : List ℕ) (rule : Rule) (i j : ℕ) → Told program sheet rule i j → (r : Reason) × True program r
some_reason program sheet Rule.Forbidden i j t = (Reason.Forbidden (place_at sheet i), forbidden program sheet _ i j t (place_at sheet i) refl refl)
some_reason program sheet Rule.Cut i j t = (Reason.Cut (place_at sheet i) _, cut program sheet _ i j t (place_at sheet i) refl refl _ refl)
some_reason program sheet Rule.FewWorking i j t =
    (Reason.FewWorking (place_at sheet i) _, few_working program sheet _ i j t (place_at sheet i) refl refl _ refl)
some_reason program sheet Rule.ManyWorking i j t =
    (Reason.ManyWorking (place_at sheet i) _, many_working program sheet _ i j t (place_at sheet i) refl refl _ refl)
some_reason program sheet Rule.FewReturn i j t =
    (Reason.FewReturn (place_at sheet i) _, few_return program sheet _ i j t (place_at sheet i) refl refl _ refl)
some_reason program sheet Rule.ManyReturn i j t =
    (Reason.ManyReturn (place_at sheet i) _, many_return program sheet _ i j t (place_at sheet i) refl refl _ refl)
some_reason program sheet Rule.BelowFloor i j t =
    let k = routine_at sheet i - start in (
      Reason.BelowFloor (place_at sheet i) _ (place_at sheet k),
      below_floor program sheet _ i j t (place_at sheet i) refl k refl (place_at sheet k) refl refl _ refl,
    )
some_reason program sheet Rule.After i j t = lost_reason program sheet (place_at sheet i) (after_place program sheet i) t.stands t.fails.1
some_reason program sheet Rule.Target i j t = lost_reason program sheet (place_at sheet i) (target_place program sheet i) t.stands t.fails.2
some_reason program sheet Rule.Back i j t = lost_reason program sheet (place_at sheet i) (back_place sheet i j) t.stands t.fails.1
some_reason program sheet Rule.ReturnOffFloor i j t =
    let k = routine_at sheet i - start in (
      Reason.ReturnOffFloor (place_at sheet i) (place_at sheet k),
      off_floor program sheet _ i j t (place_at sheet i) refl k refl (place_at sheet k) refl refl,
    )
some_reason program sheet Rule.ReturnsDiffer i j t =
    (Reason.ReturnsDiffer (place_at sheet i) (place_at sheet j), differing program sheet _ i j t (place_at sheet i) refl refl (place_at sheet j) refl)

pub told_refutes : (program sheet : List ℕ) (rule : Rule) (i j : ℕ) → Told program sheet rule i j → Assignable program → ⊥
told_refutes program sheet rule i j t = let x = some_reason program sheet rule i j t in true_refutes program x.0 x.1
