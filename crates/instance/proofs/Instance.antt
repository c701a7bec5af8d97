-- Demand 3 at two filters, each with a list of calls: its hypotheses can be met, and its calls are run and refused as they should
-- be.
-- Assumes nothing.
use mathlib.Core.Path.{◌≡◌, refl, ap}
use mathlib.Core.Bool.{Bool, true, cond, ◌&&◌}
use mathlib.Core.List.{List, [], ◌∷◌}
use Prim.Native.Nat.{ℕ, suc, ◌+◌, ◌*◌, ◌-◌}
use native.Mathlib.Omega.{arith}
use lib.Dec.{T, eqb, ltb, ltb→lt}
use lib.ListN.{replicate}
use borrow.Author.Tests.{eqb-false}
use Rattle.model.specs.Bytes.{Bytes, zeros}
use Rattle.model.specs.Machine.{memory_size, page_size, stack_size, State}
use Rattle.model.specs.Step.{fetched, step}
use Rattle.model.specs.Run.{Answer, Reply, trace}
use Rattle.model.specs.Run.Answer.{Refused, Loaded, Broke, Spent}
use Rattle.model.specs.Admission.{admit_most, sheet_record}
use Rattle.model.specs.Calls.{number_of, frame_call, frame_trace, InstallResult, install_call}
use Rattle.model.specs.Cases.{used, frame_record}
use Rattle.model.specs.Demand3.{Filling, Request, Lent, Call, filled, given, handed_back, called, traced, next, InstallsRefused, greatest_of, greatest_depth, Safe}
use Rattle.model.specs.Demand3.Request.{frame, install}
use Rattle.model.specs.Demand3.Lent.{own, other}
use Rattle.model.proofs.Bytes.{nil_bytes, cons_bytes}
use Rattle.model.proofs.Tests.{and_left, and_right}
use Rattle.model.proofs.Computing.{calling}
use Rattle.model.proofs.Demand3.{demand3}

-- A filter that passes the frames whose data bytes have a checksum of 0: from the last data byte to the first it takes each
-- into an exclusive or, on the return stack
unfoldable pub filter : List ℕ
filter =
    0xC0 ∷ 0x00 ∷ 0x80 ∷ 0x80 ∷ 0x10  -- 0100 LITr 00, LIT 80, LDZ: the checksum is 0, and L bytes are left
    ∷ 0x06 ∷ 0x20 ∷ 0x00 ∷ 0x04  -- 0105 DUP, JCI 010D: if none is left
    ∷ 0x02 ∷ 0x40 ∷ 0x00 ∷ 0x0D  -- 0109 POP, JMI 011A
    ∷ 0x06 ∷ 0x80 ∷ 0x81 ∷ 0x18 ∷ 0x10 ∷ 0x0F ∷ 0x5E  -- 010D DUP, LIT 81, ADD, LDZ, STH, EORr: else the last of these
    ∷ 0x80 ∷ 0x01 ∷ 0x19 ∷ 0x40 ∷ 0xFF ∷ 0xEB  -- 0114 LIT 01, SUB, JMI 0105: one less is left
    ∷ 0x4F ∷ 0x80 ∷ 0x00 ∷ 0x08 ∷ 0x80 ∷ 0xF2 ∷ 0x17 ∷ 0x00  -- 011A STHr, LIT 00, EQU, LIT F2, DEO, BRK: the verdict
    ∷ []

-- ---- bytes

abbrev all_bytes : List ℕ → Bool
all_bytes [] = true
all_bytes (b ∷ bs) = ltb b 256 && all_bytes bs

all-bytes : (bs : List ℕ) → T (all_bytes bs) → Bytes bs
all-bytes [] t = nil_bytes
all-bytes (b ∷ bs) t =
    cons_bytes bs (ltb→lt b 256 (and_left (ltb b 256) (all_bytes bs) t)) (all-bytes bs (and_right (ltb b 256) (all_bytes bs) t))

filter_bytes : Bytes filter
unfolding filter
filter_bytes = all-bytes filter tt

-- ---- calls

filling : Filling 256
filling = record { bytes = replicate 256 0xA5; size = refl; are_bytes = all-bytes (replicate 256 0xA5) tt }

-- what is called, and the lent buffers
abbrev call : (r : Request) → Lent r memory_size → Lent r page_size → Lent r stack_size → Lent r stack_size → Call
call r memory devices work ret =
    record {
      request = r;
      zero_page = filling;
      device_page = filling;
      work_bytes = filling;
      ret_bytes = filling;
      memory = memory;
      devices = devices;
      work = work;
      ret = ret;
    }

-- a frame call, its record and its budget
abbrev judge : (bytes : List ℕ) → T (all_bytes bytes) → ℕ → Request
judge bytes t budget = frame bytes (all-bytes bytes t) budget

-- on the machine's own buffers
abbrev plain : Request → Call
plain r = call r own own own own

-- a frame of no data
abbrev empty : Request
empty = judge (frame_record 0 []) tt 100

-- no bytes, in place of a buffer of 256
abbrev none : Lent empty 256
none = other [] (eqb-false 0 256 refl)

pub calls : List Call
calls =
    plain (judge (frame_record 3 (0x05 ∷ 0x0C ∷ 0x09 ∷ [])) tt 100)  -- checksum 0
    ∷ plain (judge (127 ∷ zeros 127) tt 100)  -- L above 126
    ∷ plain (judge (zeros 127) tt 100)  -- a record of 127 bytes
    ∷ call empty (other (zeros 65535) (eqb-false 65535 65536 refl)) own own own  -- a memory of 65,535 bytes
    ∷ call empty own none own none  -- no device page and no return stack
    ∷ plain (install [] [])  -- C-15: an install of no program
    ∷ plain (install (zeros (admit_most + 1)) [])  -- of one above 4,096 bytes
    ∷ plain (install (0x00 ∷ []) (replicate 7 5))  -- with a sheet of 7 bytes
    ∷ plain (install (0x02 ∷ 0x00 ∷ []) (replicate 16 5))  -- of one that pops from an empty stack
    ∷ call (install (0x00 ∷ []) (replicate 8 5)) own own own (other (zeros 255) tt)  -- of a good one, with a return stack of 255 bytes
    ∷ call (install [] (5 ∷ [])) own (other (zeros 256) tt) own own  -- with another device page, of the right length
    ∷ plain (judge (frame_record 0 []) tt 0)  -- budget 0
    ∷ plain (judge (frame_record 2 (0x05 ∷ 0x06 ∷ [])) tt 20)  -- a budget that ends in the loop
    ∷ plain (judge (frame_record 2 (0x05 ∷ 0x06 ∷ [])) tt 100)  -- checksum 3
    ∷ []

-- the install of the filter, on a machine that is in use
abbrev pub start : InstallResult
start = install_call filter (zeros (sheet_record * 34)) used

installs : start.reply.answer ≡ Loaded
unfolding filter used calling
installs = refl

-- a number is given
numbered : (a : Answer) (n : ℕ) → number_of a ≡ suc n → a ≡ Loaded → ⊥
numbered a n e f = let z = ap number_of f in absurd (omega arith)

-- each install of the list is refused
stands : InstallsRefused start.reply.state calls
unfolding calls filling filter used filled given handed_back calling
stands =
    (tt, (tt, (tt, (tt, (tt, (numbered _ 4 refl, (numbered _ 8 refl, (numbered _ 9 refl, (numbered _ 10 refl, (numbered _ 3 refl, (numbered _ 4 refl, (tt, (tt, (tt, tt))))))))))))))

-- the theorem, here
pub instance : Safe filter start.sheet start.reply.state calls
instance = demand3.safe filter (zeros (sheet_record * 34)) filter_bytes used installs calls stands

-- ---- what these calls reply: answer, steps and verdict of each

abbrev pub replied : Request → State → Reply
replied (frame bytes are_bytes budget) s = frame_call bytes budget s
replied (install program sheet) s = (install_call program sheet s).reply

abbrev pub replies : State → List Call → List (Answer × ℕ × ℕ)
replies s [] = []
replies s (c ∷ cs) =
    let r = replied c.request (called c s) in
    (r.answer, r.steps, r.verdict) ∷ replies (next c s) cs

pub answers : replies start.reply.state calls
    ≡ (Broke, 46, 1) ∷ (Refused 8, 0, 0) ∷ (Refused 7, 0, 0) ∷ (Refused 1, 0, 0) ∷ (Refused 2, 0, 0)
    ∷ (Refused 5, 0, 0) ∷ (Refused 9, 0, 0) ∷ (Refused 10, 0, 0) ∷ (Refused 11, 0, 0) ∷ (Refused 4, 0, 0) ∷ (Refused 5, 0, 0)
    ∷ (Spent, 0, 0) ∷ (Spent, 20, 0) ∷ (Broke, 35, 0) ∷ []
unfolding calls filling filter used filled given handed_back calling
answers = refl

-- ---- C-15: what its installs leave of the sheets that they are lent: with 11 zeros, with another number what was there

abbrev pub sheets_after : State → List Call → List (List ℕ)
sheets_after s [] = []
sheets_after s (c ∷ cs) = elim c.request [ frame bytes are_bytes budget ↦ sheets_after (next c s) cs | install program sheet ↦ (install_call program sheet (called c s)).sheet ∷ sheets_after (next c s) cs ]

pub sheets_left : sheets_after start.reply.state calls ≡ [] ∷ [] ∷ replicate 7 5 ∷ zeros 16 ∷ replicate 8 5 ∷ (5 ∷ []) ∷ []
unfolding calls filling filter used filled given handed_back calling
sheets_left = refl

-- ---- C-20: the high marks after each of them: a refused call leaves them, a frame call sets them to 0 first

abbrev pub marks_after : State → List Call → List (ℕ × ℕ)
marks_after s [] = []
marks_after s (c ∷ cs) = let t = next c s in (t.high.work, t.high.ret) ∷ marks_after t cs

pub marks_met : marks_after start.reply.state calls
    ≡ (3, 2) ∷ (3, 2) ∷ (3, 2) ∷ (3, 2) ∷ (3, 2) ∷ (3, 2) ∷ (3, 2) ∷ (3, 2) ∷ (3, 2) ∷ (3, 2) ∷ (3, 2) ∷ (0, 0) ∷ (3, 2) ∷ (3, 2) ∷ []
unfolding calls filling filter used filled given handed_back calling
marks_met = refl

-- the greatest depths of its sheet: no smaller bound holds
pub greatest_met : (greatest_depth 1 start.sheet ≡ 3) × (greatest_depth 2 start.sheet ≡ 2)
unfolding filter used greatest_of calling
greatest_met = (refl, refl)

-- ---- C-19: a filter with subroutines, which passes the frames whose first two data bytes are the same

unfoldable pub caller : List ℕ
caller =
    0x80 ∷ 0x82 ∷ 0x60 ∷ 0x00 ∷ 0x10 ∷ 0x80 ∷ 0x00 ∷ 0x11  -- 0100 LIT 82, JSI 0115, LIT 00, STZ: the first of them
    ∷ 0x80 ∷ 0x83 ∷ 0x60 ∷ 0x00 ∷ 0x08 ∷ 0x80 ∷ 0x00 ∷ 0x10  -- 0108 LIT 83, JSI 0115, LIT 00, LDZ: the second, and the first
    ∷ 0x08 ∷ 0x80 ∷ 0xF2 ∷ 0x17 ∷ 0x00  -- 0110 EQU, LIT F2, DEO, BRK: the verdict
    ∷ 0x60 ∷ 0x00 ∷ 0x01 ∷ 0x6C  -- 0115 JSI 0119, JMP2r
    ∷ 0x10 ∷ 0x6C  -- 0119 LDZ, JMP2r
    ∷ []

caller_bytes : Bytes caller
unfolding caller
caller_bytes = all-bytes caller tt

pub same_bytes : Call
same_bytes = plain (judge (frame_record 2 (0x05 ∷ 0x05 ∷ [])) tt 100)

pub other_bytes : Call
other_bytes = plain (judge (frame_record 2 (0x05 ∷ 0x06 ∷ [])) tt 100)

abbrev pub caller_start : InstallResult
caller_start = install_call caller (zeros (sheet_record * 27)) used

caller_installs : caller_start.reply.answer ≡ Loaded
unfolding caller used calling
caller_installs = refl

pub caller_instance : Safe caller caller_start.sheet caller_start.reply.state (same_bytes ∷ other_bytes ∷ [])
unfolding same_bytes other_bytes
caller_instance =
    demand3.safe caller (zeros (sheet_record * 27)) caller_bytes used caller_installs (same_bytes ∷ other_bytes ∷ []) (tt, (tt, tt))

pub caller_answers : replies caller_start.reply.state (same_bytes ∷ other_bytes ∷ []) ≡ (Broke, 20, 1) ∷ (Broke, 20, 0) ∷ []
unfolding same_bytes other_bytes filling caller used filled given handed_back calling
caller_answers = refl

-- where each 6C of its first frame call lands: just after the JSI at 0115, then after the one at 0102; again after the one at 0115,
-- then after the one at 010A
abbrev pub landings : List State → List ℕ
landings [] = []
landings (s ∷ states) = cond (eqb (fetched s) 0x6C) ((step s).pc ∷ landings states) (landings states)

pub caller_lands : landings (traced same_bytes.request (called same_bytes caller_start.reply.state))
    ≡ (0x0118 ∷ 0x0105 ∷ 0x0118 ∷ 0x010D ∷ [])
unfolding same_bytes filling caller used filled given handed_back frame_trace trace calling
caller_lands = refl
