-- Lines that the definition gives, computed: one or two for each reason. That a reason is true of its program is not proved here.
-- Assumes nothing.
use mathlib.Core.Path.{◌≡◌, refl}
use mathlib.Core.List.{List, [], ◌∷◌, map}
use Prim.Native.Nat.{ℕ}
use Rattle.std.specs.Prelude.{Option, Some, None, Result, Ok, Err}
use Prim.Native.String.{String}
use lib.ListN.{replicate}
use Rattle.model.specs.Instruction.{wide, return_mode, keep_mode}
use Rattle.model.specs.Admission.{byte_at}
use Rattle.model.specs.declared.Place.{Place}
use Rattle.model.specs.declared.Reason.{Reason}
use Rattle.model.specs.declared.Refusal.{Refusal}
use Rattle.text.specs.Lines.{decimal, refused_line}
use Rattle.words.specs.Words.{text, joined, digits, count, hex, name}
use Rattle.why.specs.Explained.{takes, leaves, returns_with, in_routine, with_depths, other_way, is_cut, takes_below, goes_outside, ways_differ, returns_off_floor, returns_differ, sentence, place_of, because_line, explain_line}

pub record Case : Type 0 where
  pub program : List ℕ
  pub reply : Result (Option Reason) Refusal
  pub line : String

-- at an address, the depths, and the routine
abbrev place : ℕ → ℕ → ℕ → ℕ → Place
place at work ret routine = record { at = at; work = work; ret = ret; routine = routine }

abbrev because : List ℕ → Reason → String → Case
because program reason line = record { program = program; reply = Ok (Some reason); line = line }

pub lines : List Case
lines =
    record { program = []; reply = Err Refusal.Program; line = "refused 5\n" }
    ∷ record { program = 0x00 ∷ []; reply = Ok None; line = "admitted\n" }
    ∷ because (0x40 ∷ 0x00 ∷ []) (Reason.Cut (place 0x100 0 0 0x100) 3)
    "refused 11 at 0100: JMI is 3 bytes long, and the program ends after 2 of them\n"
    ∷ because (0xA0 ∷ 0x01 ∷ 0x00 ∷ 0x2C ∷ []) (Reason.Forbidden (place 0x103 2 0 0x100))
    "refused 11 at 0103: JMP2 is not allowed in a filter\n"
    ∷ because (0x02 ∷ []) (Reason.FewWorking (place 0x100 0 0 0x100) 1)
    "refused 11 at 0100: POP takes 1 byte of the working stack, which holds 0\n"
    ∷ because (0x62 ∷ []) (Reason.FewReturn (place 0x100 0 0 0x100) 2)
    "refused 11 at 0100: POP2r takes 2 bytes of the return stack, which holds 0\n"
    ∷ because (0x60 ∷ 0x00 ∷ 0x01 ∷ 0x00 ∷ 0x42 ∷ 0x6C ∷ []) (Reason.BelowFloor (place 0x104 0 2 0x104) 1 (place 0x104 0 2 0x104))
    "refused 11 at 0104: POPr takes 1 byte of the return stack, which holds 2, and 2 of them belong to the callers of routine 0104\n"
    ∷ because (replicate 384 0xA0) (Reason.ManyWorking (place 0x27D 254 0 0x100) 256)
    "refused 11 at 027D: LIT2 leaves 256 bytes on the working stack, which has room for 255\n"
    ∷ because (replicate 384 0xE0) (Reason.ManyReturn (place 0x27D 0 254 0x100) 256)
    "refused 11 at 027D: LIT2r leaves 256 bytes on the return stack, which has room for 255\n"
    ∷ because (0x40 ∷ 0x01 ∷ 0x00 ∷ []) (Reason.Outside (place 0x100 0 0 0x100) (place 0x203 0 0 0x100))
    "refused 11 at 0100: JMI goes on to 0203, outside the program, which is 0100 to 0102\n"
    ∷ because (0x80 ∷ 0x00 ∷ 0x20 ∷ 0x00 ∷ 0x02 ∷ 0x80 ∷ 0x00 ∷ 0x00 ∷ [])
    (Reason.WaysDiffer (place 0x105 0 0 0x100) (place 0x107 1 0 0x100) (place 0x107 0 0 0x100))
    "refused 11 at 0105: LIT goes on to 0107 with working depth 1 and return depth 0, and another way there has 0 and 0\n"
    ∷ because (0x80 ∷ 0x00 ∷ 0x20 ∷ 0x00 ∷ 0x03 ∷ 0x60 ∷ 0x00 ∷ 0x00 ∷ 0x00 ∷ [])
    (Reason.WaysDiffer (place 0x105 0 0 0x100) (place 0x108 0 2 0x108) (place 0x108 0 0 0x100))
    "refused 11 at 0105: JSI goes on to 0108 with working depth 0 and return depth 2 in routine 0108, and another way there has 0 and 0 in routine 0100\n"
    ∷ because (0xE0 ∷ 0x00 ∷ 0x00 ∷ 0x6C ∷ []) (Reason.ReturnIn0100 (place 0x103 0 2 0x100))
    "refused 11 at 0103: JMP2r returns in routine 0100, which was not called\n"
    ∷ because (0x60 ∷ 0x00 ∷ 0x01 ∷ 0x00 ∷ 0xC0 ∷ 0x00 ∷ 0x6C ∷ []) (Reason.ReturnOffFloor (place 0x106 0 3 0x104) (place 0x104 0 2 0x104))
    "refused 11 at 0106: JMP2r returns from routine 0104 with return depth 3, and it was entered with 2\n"
    ∷ because (0xA0 ∷ 0x00 ∷ 0x00 ∷ 0x60 ∷ 0x00 ∷ 0x01 ∷ 0x00 ∷ 0x20 ∷ 0x00 ∷ 0x01 ∷ 0x6C ∷ 0x06 ∷ 0x6C ∷ [])
    (Reason.ReturnsDiffer (place 0x10C 2 2 0x107) (place 0x10A 1 2 0x107))
    "refused 11 at 010C: JMP2r returns from routine 0107 with working depth 2, and the JMP2r at 010A with 1\n"
    ∷ []

pub lines_are : map (λ (c : Case). explain_line c.program c.reply) lines ≡ map (λ (c : Case). text c.line) lines
unfolding explain_line because_line place_of sentence takes leaves returns_with in_routine with_depths other_way is_cut takes_below goes_outside ways_differ returns_off_floor returns_differ joined digits count hex name decimal refused_line wide return_mode keep_mode byte_at lines
lines_are = refl
