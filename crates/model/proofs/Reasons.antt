-- Where a reason is true, there is no assignment; and nothing is told from behind a fault. Assumes nothing.
use mathlib.Core.Path.{◌≡◌, refl, ap, ◌∙◌}
use mathlib.Core.Bool.{Bool, true, false, not}
use mathlib.Core.List.{List, [], ◌∷◌}
use Prim.Native.Nat.{ℕ}
use native.Mathlib.Omega.{arith}
use lib.Dec.{T}
use Rattle.model.specs.Machine.{start}
use Rattle.model.specs.Admission.{Mark, byte_at, allowed, target_of, successors, Way, GoesOn, Leaves, floor, ret_of, Rules, Assignment}
use Rattle.model.specs.Admission.Mark.{marked}
use Rattle.model.specs.Admission.Way.{begin, go, return}
use Rattle.model.specs.Reasons.{Passable, WayTo, Entry, Returns, True, Refuting}
use Rattle.model.specs.declared.Place.{Place}
use Rattle.model.specs.declared.Reason.{Reason}
use Rattle.model.proofs.Bytes.{among_every}
use Rattle.model.proofs.Changes.{length_is}
use Rattle.model.proofs.Computing.{admitting}
use Rattle.model.proofs.Reached.{along, assigned_closed}

module _ (program : List ℕ) (marks : ℕ → Mark) (a : Assignment program marks) where
  -- every assignment marks where a way leads
  marks_way : {at w r q : ℕ} → Way program at w r q → marks at ≡ marked w r q
  marks_way = along program marks (assigned_closed program marks a)

  rules_way : (p : Place) → WayTo program p → Rules program marks p.at p.work p.ret p.routine
  rules_way p way = a.rules p.at p.work p.ret p.routine (marks_way way)

  -- and has it in the program
  goes_way : {at w r q : ℕ} → Way program at w r q → GoesOn program marks (at, marked w r q)
  goes_way begin = ((omega arith, omega (arith, (a.rules start 0 0 start a.first).inside, length_is (byte_at program start))), a.first)
  goes_way (go {at} {w} {r} {q} way among) =
      among_every (GoesOn program marks) (successors program at w r q) (a.rules at w r q (marks_way way)).on among
  goes_way (return {at} {w} {r} {q} {to} {v} {s} call jsi end leave) =
      a.back (target_of program at) v
      record { at = at; work = w; ret = r; routine = q; here = marks_way call; calls = jsi; enters = refl }
      record { at = to; ret = s; here = marks_way end; returns = leave }

  -- the floor of a routine
  floor_way : (q : ℕ) (p : Place) → Entry program q p → floor marks q ≡ p.ret
  floor_way q p e = ap ret_of (rw e.1 at (marks_way e.0.0))

  leaves_way : (p : Place) → Returns program p → Leaves program marks p.routine p.work
  leaves_way p e = record { at = p.at; ret = p.ret; here = marks_way e.0.0; returns = e.1 }

same_parts : {x : Mark} {w r q v s p : ℕ} → x ≡ marked w r q → x ≡ marked v s p → (w ≡ v) × (r ≡ s) × (q ≡ p)
same_parts e f = (cc, cc, cc)

not-fine : (b : Bool) → T (not b) → T b → ⊥
not-fine true n t = n
not-fine false n t = t

pub true_refutes : Refuting
true_refutes program (Reason.Cut p n) t a = omega (arith, t.1, t.2, (rules_way program a.0 a.1 p t.0.0).inside)
true_refutes program (Reason.Forbidden p) t a = not-fine (allowed (byte_at program p.at)) t.1 (rules_way program a.0 a.1 p t.0.0).fine
true_refutes program (Reason.FewWorking p n) t a = omega (arith, t.1, t.2, (rules_way program a.0 a.1 p t.0.0).work)
true_refutes program (Reason.FewReturn p n) t a = omega (arith, t.1, t.2, (rules_way program a.0 a.1 p t.0.0).ret)
true_refutes program (Reason.BelowFloor p n entry) t a =
    omega (arith, t.2, t.4, floor_way program a.0 a.1 p.routine entry t.3, (rules_way program a.0 a.1 p t.0.0).above t.1)
true_refutes program (Reason.ManyWorking p n) t a = omega (arith, t.1, t.2, (rules_way program a.0 a.1 p t.0.0).work_top)
true_refutes program (Reason.ManyReturn p n) t a = omega (arith, t.1, t.2, (rules_way program a.0 a.1 p t.0.0).ret_top)
true_refutes program (Reason.Outside p next) t a = t.2 (goes_way program a.0 a.1 t.1.0).0
true_refutes program (Reason.WaysDiffer p next other) t a =
    t.4 (same_parts (rw t.3 at (marks_way program a.0 a.1 t.1.0)) (marks_way program a.0 a.1 t.2.0))
true_refutes program (Reason.ReturnIn0100 p) t a = (rules_way program a.0 a.1 p t.0.0.0).inner t.0.1 t.1
true_refutes program (Reason.ReturnOffFloor p entry) t a =
    t.2 ((rules_way program a.0 a.1 p t.0.0.0).low t.0.1 ∙ floor_way program a.0 a.1 p.routine entry t.1)
true_refutes program (Reason.ReturnsDiffer p other) t a =
    t.3
    (a.1.one p.routine p.work other.work
    (leaves_way program a.0 a.1 p t.0)
    (rw t.2 (leaves_way program a.0 a.1 other t.1)))

-- ---- what is not true

-- 02 02: behind a POP that finds nothing there is no place, so that nothing is told of the second one
abbrev pops : List ℕ
pops = 0x02 ∷ 0x02 ∷ []

at_first : {at w r q : ℕ} (way : Way pops at w r q) → Passable way → (at ≡ start) × (w ≡ 0)
unfolding admitting
at_first begin t = (refl, refl)
at_first (go way among) t =
    let e = at_first way t.0 in
    let h = rw (e.0, e.1) at t.1.work in
    absurd (omega (arith, h))
at_first (return call jsi end leave) t =
    let e = at_first call t.0 in
    let b : ◌≡◌ {A = ℕ} 0x02 0x60 = rw e.0 at jsi in
    absurd (omega arith)

not_behind : (w r q n : ℕ) → True pops (Reason.FewWorking (record { at = 0x0101; work = w; ret = r; routine = q }) n) → ⊥
not_behind w r q n t = omega (arith, (at_first t.0.0 t.0.1).0)
