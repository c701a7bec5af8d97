-- Why a program is refused with 11: a reason for each of the admission rules of document 01 and of document 02, C-19 (quoted with its
-- name), and what makes a reason true of a program. `Reason` and `Place` are declared in src/lib.rt.
-- Assumes nothing.
use Rattle.std.specs.Prelude.{◌≡◌, not, List, ℕ, ◌+◌, ◌*◌, ◌≤◌, ◌<◌, T, length, Option, Some, None, Result, Ok, Err}
use Rattle.model.specs.Machine.{start}
use Rattle.model.specs.Instruction.{working, returning, taken_from, length_of}
use Rattle.model.specs.Run.{Answer}
use Rattle.model.specs.Run.Answer.{Refused, Admitted}
use Rattle.model.specs.Admission.{Mark, byte_at, Within, allowed, depth_after, Way, Assignable, sheet_record}
use Rattle.model.specs.Admission.Mark.{unmarked, marked}
use Rattle.model.specs.Admission.Way.{begin, go, return}
use Rattle.model.specs.Calls.{admit_call}
use Rattle.model.specs.Refusals.{refusal_number}
use Rattle.model.specs.declared.Place.{Place}
use Rattle.model.specs.declared.Reason.{Reason}
use Rattle.model.specs.declared.Refusal.{Refusal}

-- ---- a way that can be believed: up to its end each instruction obeys the rules that speak of it alone

-- at an address with the depths w and r
pub record Passes (program : List ℕ) (at w r : ℕ) : Type 0 where
  -- "the whole instruction lies in the program"
  pub placed : start ≤ at
  pub inside : at + length_of (byte_at program at) ≤ start + length program
  -- "it is none of .."
  pub fine : T (allowed (byte_at program at))
  -- "each stack holds the bytes that it takes, keep or not"
  pub work : taken_from working (byte_at program at) ≤ w
  pub ret : taken_from returning (byte_at program at) ≤ r
  -- "and no depth after it is above 255"
  pub work_top : depth_after working (byte_at program at) w ≤ 255
  pub ret_top : depth_after returning (byte_at program at) r ≤ 255

-- each step of the way is one of an instruction that passes; C-19: of a call and of a return
abbrev pub Passable : {program : List ℕ} {at w r q : ℕ} → Way program at w r q → Type 0
Passable begin = Unit {0}
Passable {program} (go {at} {w} {r} way among) = Passable way × Passes program at w r
Passable {program} (return {at} {w} {r} {q} {to} {v} {s} call jsi end leave) =
    Passable call × Passes program at w r × Passable end × Passes program to v s

-- where its last step comes from; C-19: from the call, where a routine returns
abbrev pub came_from : {program : List ℕ} {at w r q : ℕ} → Way program at w r q → ℕ × Mark
came_from begin = (start, unmarked)
came_from (go {at} {w} {r} {q} way among) = (at, marked w r q)
came_from (return {at} {w} {r} {q} call jsi end leave) = (at, marked w r q)

-- ---- places

-- the instruction there
abbrev pub byte_there : List ℕ → Place → ℕ
byte_there program p = byte_at program p.at

-- a way leads there
abbrev pub WayTo : List ℕ → Place → Type 0
WayTo program p = Way program p.at p.work p.ret p.routine

-- "the address is reached from 0100 with those depths", and is in the program
abbrev pub Stands : List ℕ → Place → Type 0
Stands program p = (way : WayTo program p) × Passable way × Within program p.at

-- a way leads there from the instruction at p
abbrev pub GoesTo : List ℕ → Place → Place → Type 0
GoesTo program p next =
    (way : WayTo program next) × Passable way × (came_from way ≡ (p.at, marked p.work p.ret p.routine))

-- C-19: a routine's own address, in it: the return depth there is its floor
abbrev pub Entry : List ℕ → ℕ → Place → Type 0
Entry program q p = Stands program p × (p.at ≡ q) × (p.routine ≡ q)

-- C-19: a return
abbrev pub Returns : List ℕ → Place → Type 0
Returns program p = Stands program p × (byte_there program p ≡ 0x6C)

-- the same depths and the same routine
abbrev pub Alike : Place → Place → Type 0
Alike p next = (p.work ≡ next.work) × (p.ret ≡ next.ret) × (p.routine ≡ next.routine)

-- ---- "A reason is true of a program if the address is reached from 0100 with those depths .. and the rule fails there."

abbrev pub True : List ℕ → Reason → Type 0
-- not: "the whole instruction lies in the program"
True program (Reason.Cut p n) =
    Stands program p × (n ≡ length_of (byte_there program p)) × (start + length program < p.at + n)
-- not: "it is none of .."
True program (Reason.Forbidden p) = Stands program p × T (not (allowed (byte_there program p)))
-- not: "each stack holds the bytes that it takes, keep or not"
True program (Reason.FewWorking p n) = Stands program p × (n ≡ taken_from working (byte_there program p)) × (p.work < n)
True program (Reason.FewReturn p n) = Stands program p × (n ≡ taken_from returning (byte_there program p)) × (p.ret < n)
-- not: C-19, "In it only 6C takes return bytes below the floor"
True program (Reason.BelowFloor p n entry) =
    Stands program p
    × (byte_there program p ≡ 0x6C → ⊥)
    × (n ≡ taken_from returning (byte_there program p))
    × Entry program p.routine entry
    × (p.ret < entry.ret + n)
-- not: "and no depth after it is above 255"
True program (Reason.ManyWorking p n) =
    Stands program p × (n ≡ depth_after working (byte_there program p) p.work) × (255 < n)
True program (Reason.ManyReturn p n) =
    Stands program p × (n ≡ depth_after returning (byte_there program p) p.ret) × (255 < n)
-- not: "each address where it may go on .. is in the program"
True program (Reason.Outside p next) = Stands program p × GoesTo program p next × (Within program next.at → ⊥)
-- not: "and marked with the depths after it", since another way gives it others; C-19: or another routine, "No address has two routines"
True program (Reason.WaysDiffer p next other) =
    Stands program p × GoesTo program p next × Stands program other × (next.at ≡ other.at) × (Alike next other → ⊥)
-- not: C-19, "it stands only at the floor, never in routine 0100"
True program (Reason.ReturnIn0100 p) = Returns program p × (p.routine ≡ start)
True program (Reason.ReturnOffFloor p entry) = Returns program p × Entry program p.routine entry × (p.ret ≡ entry.ret → ⊥)
-- not: C-19, "and leaves with one working depth for the whole routine"
True program (Reason.ReturnsDiffer p other) =
    Returns program p × Returns program other × (p.routine ≡ other.routine) × (p.work ≡ other.work → ⊥)

-- "where a reason is true there is no assignment"
abbrev pub Refuting : Type 0
Refuting = (program : List ℕ) (reason : Reason) → True program reason → Assignable program → ⊥

-- ---- the call `explain`

-- what admission answers, with any sheet of the right length
abbrev pub Answers : List ℕ → Answer → Type 0
Answers program answer = (sheet : List ℕ) → length sheet ≡ sheet_record * length program → (admit_call program sheet).answer ≡ answer

-- "refused with 5 or 9 as admission is; admitted, exactly when admission admits; else a reason", and it is true of the program. Where
-- several are true, which one is told is open.
abbrev pub Explains : List ℕ → Result (Option Reason) Refusal → Type 0
Explains program (Err refusal) = Answers program (Refused (refusal_number refusal)) × (refusal_number refusal ≡ 11 → ⊥)
Explains program (Ok None) = Answers program Admitted
Explains program (Ok (Some reason)) = Answers program (Refused 11) × True program reason
