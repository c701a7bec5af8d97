-- Document 01, "Bench sheet": the cases marked *, as programs and what is claimed of them, and the sheet of its example;
-- with the mistakes that it names, further sentences, document 02's C-18, C-19 and C-20, the numbered replies, frame and event calls, steps that
-- wrap a stack, and moves of sheets.
-- Assumes nothing.
use Rattle.std.specs.Prelude.{Bool, true, false, ◌&&◌, List, [], ◌∷◌, ◌++◌, ℕ, ◌+◌, ◌*◌, ◌-◌, eqb, length, get_or, take, replicate, Option, Some, None}
use Rattle.std.specs.Bool.{beq}
use Rattle.model.specs.Bytes.{number, read_ring, zeros}
use Rattle.model.specs.Machine.{memory_size, page_size, stack_size, start, Stack, stack, high_marks, State}
use Rattle.model.specs.Instruction.{working, returning}
use Rattle.model.specs.Step.{stack_wraps}
use Rattle.model.specs.Admission.{all, rule_tests, sheet_record}
use Rattle.model.specs.Run.{Answer, Reply, step_reply}
use Rattle.model.specs.Run.Answer.{Refused, Loaded, WentOn, Broke, Spent, Paused, Ignored, Admitted}
use Rattle.model.specs.Writes.{WriteResult, written, unwritten}
use Rattle.model.specs.Moves.{widen_call, narrow_call}
use Rattle.model.specs.RecordMoves.{widen_records, narrow_records}
use Rattle.model.specs.Calls.{number_of, frame_size, load_call, step_call, run_call, event_call, frame_call, admit_call}
use Rattle.model.specs.Demand3.{greatest_depth}

-- what may be claimed: the answer of the run, its steps, the counter, a stack's pointer and the high marks afterwards, all the bytes
-- of a stack, byte i of the working stack's buffer, the ports that a further step answers, and the answer of admission
pub data Claim : Type 0 where
  answers : Answer → Claim
  steps counter work_pointer work_high ret_high : ℕ → Claim
  work_is ret_is : List ℕ → Claim
  work_byte : ℕ → ℕ → Claim
  next_ports : List ℕ → Claim
  admission : Answer → Claim

pub record Case : Type 0 where
  pub program : List ℕ
  pub watch : Option ℕ
  pub budget : ℕ
  pub claims : List Claim

-- ---- tests

abbrev pub same_bytes : List ℕ → List ℕ → Bool
same_bytes [] [] = true
same_bytes [] (y ∷ ys) = false
same_bytes (x ∷ xs) [] = false
same_bytes (x ∷ xs) (y ∷ ys) = eqb x y && same_bytes xs ys

-- answers told apart by a number
abbrev pub answer_code : Answer → ℕ
answer_code Loaded = 0
answer_code WentOn = 1
answer_code Broke = 2
answer_code Spent = 3
answer_code Ignored = 4
answer_code Admitted = 5
answer_code Paused = 6
answer_code (Refused n) = 7 + n

abbrev pub same_answer : Answer → Answer → Bool
same_answer a b = eqb (answer_code a) (answer_code b)

-- the stack holds just these bytes
abbrev pub stack_is : Stack → List ℕ → Bool
stack_is s bytes = eqb s.pointer (length bytes) && same_bytes (take (length bytes) s.bytes) bytes

unfoldable pub claimed : List ℕ → Reply → Claim → Bool
claimed program r (answers a) = same_answer r.answer a
claimed program r (steps n) = eqb r.steps n
claimed program r (counter n) = eqb r.state.pc n
claimed program r (work_pointer n) = eqb r.state.work.pointer n
claimed program r (work_high n) = eqb r.state.high.work n
claimed program r (ret_high n) = eqb r.state.high.ret n
claimed program r (work_is bytes) = stack_is r.state.work bytes
claimed program r (ret_is bytes) = stack_is r.state.ret bytes
claimed program r (work_byte i b) = eqb (get_or r.state.work.bytes i 0) b
claimed program r (next_ports ports) = same_bytes (step_reply r.state).ports ports
claimed program r (admission a) = same_answer (admit_call program (zeros (sheet_record * length program))).answer a

unfoldable pub all_claimed : List ℕ → Reply → List Claim → Bool
all_claimed program r [] = true
all_claimed program r (c ∷ cs) = claimed program r c && all_claimed program r cs

-- a machine that was in use, with buffers of these lengths
abbrev pub used_with : ℕ → ℕ → ℕ → ℕ → State
used_with m d w r =
    record {
      memory = replicate m 0xAA;
      devices = replicate d 0xAA;
      work = stack (replicate w 0xAA) 0xAA;
      ret = stack (replicate r 0xAA) 0xAA;
      pc = 0xAAAA;
      high = high_marks 0xAA 0xAA;
    }

-- with the right lengths: nothing of it is left after a load
unfoldable pub used : State
used = used_with memory_size page_size stack_size stack_size

-- "after load": a load, then a run with the budget
unfoldable pub load_and_run : List ℕ → Option ℕ → ℕ → Reply
load_and_run program watch budget = run_call watch budget (load_call program used).state

unfoldable pub all_hold : List Case → Bool
all_hold [] = true
all_hold (c ∷ cs) = all_claimed c.program (load_and_run c.program c.watch c.budget) c.claims && all_hold cs

-- ---- the cases

abbrev pub case : List ℕ → ℕ → List Claim → Case
case program budget claims = record { program = program; watch = None; budget = budget; claims = claims }

-- the run watches this port
abbrev pub watching : ℕ → List ℕ → ℕ → List Claim → Case
watching port program budget claims = record { program = program; watch = Some port; budget = budget; claims = claims }

-- a budget that is enough, where the sheet names none
abbrev pub enough : ℕ
enough = 100

-- marked *
unfoldable pub starred : List Case
starred =
    case (0x80 ∷ 0x05 ∷ 0x80 ∷ 0x03 ∷ 0x18 ∷ 0x00 ∷ []) enough
    (answers Broke ∷ work_is (0x08 ∷ []) ∷ steps 4 ∷ counter 0x0106 ∷ work_byte 1 0x03 ∷ [])
    ∷ case (0x80 ∷ 0x05 ∷ 0x80 ∷ 0x03 ∷ 0x98 ∷ 0x00 ∷ []) enough
    (answers Broke ∷ work_is (0x05 ∷ 0x03 ∷ 0x08 ∷ []) ∷ [])
    ∷ case (0xA0 ∷ 0xFF ∷ 0xFF ∷ 0x21 ∷ 0x00 ∷ []) enough
    (answers Broke ∷ work_is (0x00 ∷ 0x00 ∷ []) ∷ [])
    ∷ case (0x02 ∷ 0x00 ∷ []) enough
    (answers Broke ∷ work_pointer 255 ∷ admission (Refused 11) ∷ [])
    ∷ case (0x80 ∷ 0x07 ∷ 0x80 ∷ 0x00 ∷ 0x1B ∷ 0x00 ∷ []) enough
    (answers Broke ∷ work_is (0x00 ∷ []) ∷ [])
    ∷ case (0x80 ∷ 0x34 ∷ 0x80 ∷ 0x33 ∷ 0x1F ∷ 0x00 ∷ []) enough
    (answers Broke ∷ work_is (0x30 ∷ []) ∷ [])
    ∷ case (0x80 ∷ 0x80 ∷ 0x80 ∷ 0x7F ∷ 0x0A ∷ 0x00 ∷ []) enough
    (answers Broke ∷ work_is (0x01 ∷ []) ∷ [])
    ∷ case (0x80 ∷ 0xFD ∷ 0x0C ∷ []) 5
    (answers Spent ∷ counter 0x0102 ∷ work_pointer 1 ∷ admission (Refused 11) ∷ [])
    ∷ case (0x40 ∷ 0xFF ∷ 0xFD ∷ []) 7
    (answers Spent ∷ steps 7 ∷ counter 0x0100 ∷ admission Admitted ∷ [])
    -- admission refuses "for the POP at 0105": see the first of the mistakes
    ∷ case (0x80 ∷ 0x01 ∷ 0x20 ∷ 0x00 ∷ 0x01 ∷ 0x02 ∷ 0x00 ∷ []) enough
    (answers Broke ∷ steps 3 ∷ admission (Refused 11) ∷ [])
    ∷ case (0xA0 ∷ 0x01 ∷ 0x05 ∷ 0x2E ∷ 0x00 ∷ 0x00 ∷ []) enough
    (answers Broke ∷ ret_is (0x01 ∷ 0x04 ∷ []) ∷ counter 0x0106 ∷ [])
    -- C-12: "The case 80 FF 30 00 now gives 00 00."
    ∷ case (0x80 ∷ 0xFF ∷ 0x30 ∷ 0x00 ∷ []) enough
    (answers Broke ∷ work_is (0x00 ∷ 0x00 ∷ []) ∷ [])
    ∷ []

-- "The sheet program, given 80 01 80 F2 17 00, writes just"
unfoldable pub example : List ℕ
example = 0x80 ∷ 0x01 ∷ 0x80 ∷ 0xF2 ∷ 0x17 ∷ 0x00 ∷ []

unfoldable pub example_sheet : List ℕ
example_sheet =
    0x01 ∷ 0x00 ∷ 0x00 ∷ 0x80 ∷ 0x01 ∷ 0x00 ∷ 0x00 ∷ 0x00
    ∷ 0x00 ∷ 0x00 ∷ 0x00 ∷ 0x01 ∷ 0x00 ∷ 0x00 ∷ 0x00 ∷ 0x00
    ∷ 0x01 ∷ 0x01 ∷ 0x00 ∷ 0x80 ∷ 0x01 ∷ 0x00 ∷ 0x00 ∷ 0x00
    ∷ 0x00 ∷ 0x00 ∷ 0x00 ∷ 0xF2 ∷ 0x00 ∷ 0x00 ∷ 0x00 ∷ 0x00
    ∷ 0x01 ∷ 0x02 ∷ 0x00 ∷ 0x17 ∷ 0x01 ∷ 0x00 ∷ 0x00 ∷ 0x00
    ∷ 0x01 ∷ 0x00 ∷ 0x00 ∷ 0x00 ∷ 0x01 ∷ 0x00 ∷ 0x00 ∷ 0x00
    ∷ []

-- C-19: a call of the routine at 0104, which pushes a byte, and BRK after it
unfoldable pub call_example : List ℕ
call_example = 0x60 ∷ 0x00 ∷ 0x01 ∷ 0x00 ∷ 0x80 ∷ 0x07 ∷ 0x6C ∷ []

unfoldable pub call_sheet : List ℕ
call_sheet =
    0x01 ∷ 0x00 ∷ 0x00 ∷ 0x60 ∷ 0x01 ∷ 0x00 ∷ 0x00 ∷ 0x00
    ∷ 0x00 ∷ 0x00 ∷ 0x00 ∷ 0x00 ∷ 0x00 ∷ 0x00 ∷ 0x00 ∷ 0x00
    ∷ 0x00 ∷ 0x00 ∷ 0x00 ∷ 0x01 ∷ 0x00 ∷ 0x00 ∷ 0x00 ∷ 0x00
    ∷ 0x01 ∷ 0x01 ∷ 0x00 ∷ 0x00 ∷ 0x01 ∷ 0x00 ∷ 0x00 ∷ 0x00
    ∷ 0x01 ∷ 0x00 ∷ 0x02 ∷ 0x80 ∷ 0x01 ∷ 0x04 ∷ 0x00 ∷ 0x00
    ∷ 0x00 ∷ 0x00 ∷ 0x00 ∷ 0x07 ∷ 0x00 ∷ 0x00 ∷ 0x00 ∷ 0x00
    ∷ 0x01 ∷ 0x01 ∷ 0x02 ∷ 0x6C ∷ 0x01 ∷ 0x04 ∷ 0x00 ∷ 0x00
    ∷ []

-- "Slips to strike out", where the cases above do not show them
unfoldable pub mistakes : List Case
mistakes =
    -- the last case but two above, with BRK in place of the POP
    case (0x80 ∷ 0x01 ∷ 0x20 ∷ 0x00 ∷ 0x01 ∷ 0x00 ∷ 0x00 ∷ []) enough
    (answers Broke ∷ steps 3 ∷ admission Admitted ∷ [])
    -- "Admission that follows only one way out of JCI": the POP is where it jumps to
    ∷ case (0x80 ∷ 0x01 ∷ 0x20 ∷ 0x00 ∷ 0x01 ∷ 0x00 ∷ 0x02 ∷ []) enough
    (admission (Refused 11) ∷ [])
    -- "Comparing as signed numbers."
    ∷ case (0xA0 ∷ 0x80 ∷ 0x00 ∷ 0xA0 ∷ 0x7F ∷ 0xFF ∷ 0x2B ∷ 0x00 ∷ []) enough
    (work_is (0x00 ∷ []) ∷ [])
    -- "An 8-bit shift that keeps a ninth bit."
    ∷ case (0x80 ∷ 0xFF ∷ 0x80 ∷ 0x10 ∷ 0x1F ∷ 0x80 ∷ 0x01 ∷ 0x1F ∷ 0x00 ∷ []) enough
    (work_is (0x7F ∷ []) ∷ [])
    -- "STH with keep that moves instead of copying."
    ∷ case (0x80 ∷ 0x05 ∷ 0x8F ∷ 0x00 ∷ []) enough
    (work_is (0x05 ∷ []) ∷ ret_is (0x05 ∷ []) ∷ [])
    -- "Reading 80 as BRK with keep."
    ∷ case (0x80 ∷ 0x00 ∷ []) 1
    (answers Spent ∷ steps 1 ∷ work_is (0x00 ∷ []) ∷ [])
    ∷ []

-- sentences of "Machine parts", "Instruction bytes" and "Calls", and of C-12, that no case above shows
unfoldable pub sentences : List Case
sentences =
    -- "Budget 0 is Spent with 0 steps."
    case (0x00 ∷ []) 0
    (answers Spent ∷ steps 0 ∷ counter 0x0100 ∷ [])
    -- "BRK on the last unit is Broke. After BRK the counter is just past it."
    ∷ case (0x00 ∷ []) 1
    (answers Broke ∷ steps 1 ∷ counter 0x0101 ∷ [])
    -- "Bit 6: the return stack is the main one and the working stack the other": LITr 05 LITr 03 ADDr DUPr STHr BRK
    ∷ case (0xC0 ∷ 0x05 ∷ 0xC0 ∷ 0x03 ∷ 0x58 ∷ 0x46 ∷ 0x4F ∷ 0x00 ∷ []) enough
    (work_is (0x08 ∷ []) ∷ ret_is (0x08 ∷ []) ∷ [])
    -- "Every fetch, operand byte and program counter sum is modulo 65,536": LIT 05 LIT 00 STZ puts 05 at 0000, LIT 80 LIT2 FFFF
    -- STA puts LIT at FFFF, and LIT2 FFFF JMP2 goes there
    ∷ case (0x80 ∷ 0x05 ∷ 0x80 ∷ 0x00 ∷ 0x11 ∷ 0x80 ∷ 0x80 ∷ 0xA0 ∷ 0xFF ∷ 0xFF ∷ 0x15 ∷ 0xA0 ∷ 0xFF ∷ 0xFF ∷ 0x2C ∷ []) enough
    (answers Broke ∷ steps 10 ∷ counter 0x0002 ∷ work_is (0x05 ∷ []) ∷ [])
    -- C-12: "The second address of a 16-bit LDZ or STZ is now modulo 256", and "admission lets it through": LIT2 1234 LIT FF STZ2
    -- puts 12 at 00FF and 34 at 0000, which LIT FF LDZ2 reads, and LIT2 0100 LDA finds LIT2 at 0100
    ∷ case (0xA0 ∷ 0x12 ∷ 0x34 ∷ 0x80 ∷ 0xFF ∷ 0x31 ∷ 0x80 ∷ 0xFF ∷ 0x30 ∷ 0xA0 ∷ 0x01 ∷ 0x00 ∷ 0x14 ∷ 0x00 ∷ []) enough
    (answers Broke ∷ work_is (0x12 ∷ 0x34 ∷ 0xA0 ∷ []) ∷ admission Admitted ∷ [])
    -- "under the depth rules": LIT2 1234 STZ2 takes three bytes, and two are there
    ∷ case (0xA0 ∷ 0x12 ∷ 0x34 ∷ 0x31 ∷ 0x00 ∷ []) enough
    (admission (Refused 11) ∷ [])
    -- "LDA, STA, LDR and STR stay modulo 65,536": LIT2 00FF LDA2
    ∷ case (0xA0 ∷ 0x00 ∷ 0xFF ∷ 0x34 ∷ 0x00 ∷ []) enough
    (work_is (0x00 ∷ 0xA0 ∷ []) ∷ [])
    ∷ []

-- C-19, "Subroutines"
unfoldable pub subroutines : List Case
subroutines =
    -- a call and its return: 6C lands just after the call
    case (0x60 ∷ 0x00 ∷ 0x01 ∷ 0x00 ∷ 0x6C ∷ []) enough
    (answers Broke ∷ steps 3 ∷ counter 0x0104 ∷ ret_is [] ∷ admission Admitted ∷ [])
    -- "leaves with one working depth": the routine pushes a byte
    ∷ case (0x60 ∷ 0x00 ∷ 0x01 ∷ 0x00 ∷ 0x80 ∷ 0x07 ∷ 0x6C ∷ []) enough
    (answers Broke ∷ steps 4 ∷ counter 0x0104 ∷ work_is (0x07 ∷ []) ∷ admission Admitted ∷ [])
    -- two calls of one routine: the first is found before the return, the second after it
    ∷ case (0x60 ∷ 0x00 ∷ 0x04 ∷ 0x60 ∷ 0x00 ∷ 0x01 ∷ 0x00 ∷ 0x6C ∷ []) enough
    (answers Broke ∷ steps 5 ∷ counter 0x0107 ∷ admission Admitted ∷ [])
    -- two calls of one routine, each on a way of its own, both found before the return
    ∷ case (0x80 ∷ 0x00 ∷ 0x20 ∷ 0x00 ∷ 0x04 ∷ 0x60 ∷ 0x00 ∷ 0x05 ∷ 0x00 ∷ 0x60 ∷ 0x00 ∷ 0x01 ∷ 0x00 ∷ 0x6C ∷ []) enough
    (answers Broke ∷ steps 5 ∷ counter 0x0109 ∷ admission Admitted ∷ [])
    -- a call in a routine: the return of 0104 is found after the one of 0108
    ∷ case (0x60 ∷ 0x00 ∷ 0x01 ∷ 0x00 ∷ 0x60 ∷ 0x00 ∷ 0x01 ∷ 0x6C ∷ 0x6C ∷ []) enough
    (answers Broke ∷ steps 5 ∷ counter 0x0104 ∷ admission Admitted ∷ [])
    -- the routine stands before the call
    ∷ case (0x40 ∷ 0x00 ∷ 0x01 ∷ 0x6C ∷ 0x60 ∷ 0xFF ∷ 0xFC ∷ 0x00 ∷ []) enough
    (answers Broke ∷ steps 4 ∷ counter 0x0108 ∷ admission Admitted ∷ [])
    -- two returns with one working depth
    ∷ case (0x60 ∷ 0x00 ∷ 0x01 ∷ 0x00 ∷ 0x80 ∷ 0x01 ∷ 0x20 ∷ 0x00 ∷ 0x01 ∷ 0x6C ∷ 0x6C ∷ []) enough
    (answers Broke ∷ steps 5 ∷ counter 0x0104 ∷ admission Admitted ∷ [])
    -- two returns with two working depths
    ∷ case (0x60 ∷ 0x00 ∷ 0x01 ∷ 0x00 ∷ 0x80 ∷ 0x01 ∷ 0x20 ∷ 0x00 ∷ 0x01 ∷ 0x6C ∷ 0x80 ∷ 0x05 ∷ 0x6C ∷ []) enough
    (admission (Refused 11) ∷ [])
    -- "Every call enters a routine with the same two depths": one with working depth 0, one with 1; one with return depth 0, one with 2
    ∷ case (0x60 ∷ 0x00 ∷ 0x06 ∷ 0x80 ∷ 0x05 ∷ 0x60 ∷ 0x00 ∷ 0x01 ∷ 0x00 ∷ 0x6C ∷ []) enough
    (admission (Refused 11) ∷ [])
    ∷ case (0x60 ∷ 0x00 ∷ 0x04 ∷ 0x60 ∷ 0x00 ∷ 0x05 ∷ 0x00 ∷ 0x60 ∷ 0x00 ∷ 0x01 ∷ 0x6C ∷ 0x6C ∷ []) enough
    (answers Broke ∷ steps 7 ∷ counter 0x0107 ∷ admission (Refused 11) ∷ [])
    -- a routine may take return bytes that are above the floor: LITr 05 POPr
    ∷ case (0x60 ∷ 0x00 ∷ 0x01 ∷ 0x00 ∷ 0xC0 ∷ 0x05 ∷ 0x42 ∷ 0x6C ∷ []) enough
    (answers Broke ∷ steps 5 ∷ counter 0x0104 ∷ admission Admitted ∷ [])
    -- "only 6C takes return bytes below the floor": POPr LITr 05, which makes another return address, and POPkr, which only reads
    ∷ case (0x60 ∷ 0x00 ∷ 0x01 ∷ 0x00 ∷ 0x42 ∷ 0xC0 ∷ 0x05 ∷ 0x6C ∷ []) enough
    (admission (Refused 11) ∷ [])
    ∷ case (0x60 ∷ 0x00 ∷ 0x01 ∷ 0x00 ∷ 0xC2 ∷ 0x6C ∷ []) enough
    (admission (Refused 11) ∷ [])
    -- "it stands only at the floor": a byte is left above it
    ∷ case (0x60 ∷ 0x00 ∷ 0x01 ∷ 0x00 ∷ 0xC0 ∷ 0x05 ∷ 0x6C ∷ []) enough
    (admission (Refused 11) ∷ [])
    -- "never in routine 0100"
    ∷ case (0xE0 ∷ 0x01 ∷ 0x04 ∷ 0x6C ∷ 0x00 ∷ []) enough
    (answers Broke ∷ steps 3 ∷ counter 0x0105 ∷ admission (Refused 11) ∷ [])
    -- so no routine calls itself, nor does one that it calls call it, nor is 0100 called
    ∷ case (0x60 ∷ 0x00 ∷ 0x01 ∷ 0x00 ∷ 0x60 ∷ 0xFF ∷ 0xFD ∷ 0x6C ∷ []) enough
    (admission (Refused 11) ∷ [])
    ∷ case (0x60 ∷ 0x00 ∷ 0x01 ∷ 0x00 ∷ 0x60 ∷ 0x00 ∷ 0x01 ∷ 0x6C ∷ 0x60 ∷ 0xFF ∷ 0xF9 ∷ 0x6C ∷ []) enough
    (admission (Refused 11) ∷ [])
    ∷ case (0x60 ∷ 0xFF ∷ 0xFD ∷ []) 7
    (answers Spent ∷ admission (Refused 11) ∷ [])
    -- "No address has two routines": 0107 jumps to 010A, which is called with the same depths
    ∷ case (0x60 ∷ 0x00 ∷ 0x04 ∷ 0x60 ∷ 0x00 ∷ 0x04 ∷ 0x00 ∷ 0x40 ∷ 0x00 ∷ 0x00 ∷ 0x6C ∷ []) enough
    (answers Broke ∷ steps 6 ∷ counter 0x0107 ∷ admission (Refused 11) ∷ [])
    -- 0107 and 010A go on at 010D with the same depths
    ∷ case (0x60 ∷ 0x00 ∷ 0x04 ∷ 0x60 ∷ 0x00 ∷ 0x04 ∷ 0x00 ∷ 0x40 ∷ 0x00 ∷ 0x03 ∷ 0x40 ∷ 0x00 ∷ 0x00 ∷ 0x6C ∷ []) enough
    (admission (Refused 11) ∷ [])
    -- code that one routine alone jumps to belongs to it
    ∷ case (0x60 ∷ 0x00 ∷ 0x04 ∷ 0x60 ∷ 0x00 ∷ 0x01 ∷ 0x00 ∷ 0x40 ∷ 0x00 ∷ 0x03 ∷ 0x00 ∷ 0x00 ∷ 0x00 ∷ 0x6C ∷ []) enough
    (answers Broke ∷ steps 7 ∷ counter 0x0107 ∷ admission Admitted ∷ [])
    -- 0103 is in the routine and after its call
    ∷ case (0x60 ∷ 0x00 ∷ 0x00 ∷ 0x6C ∷ []) enough
    (admission (Refused 11) ∷ [])
    -- "else the call doesn't mark it": the routine ends in BRK, and nothing stands after the call
    ∷ case (0x40 ∷ 0x00 ∷ 0x01 ∷ 0x00 ∷ 0x60 ∷ 0xFF ∷ 0xFC ∷ []) enough
    (answers Broke ∷ steps 3 ∷ counter 0x0104 ∷ admission Admitted ∷ [])
    -- it returns, and nothing stands after the call
    ∷ case (0x40 ∷ 0x00 ∷ 0x01 ∷ 0x6C ∷ 0x60 ∷ 0xFF ∷ 0xFC ∷ []) 3
    (answers Spent ∷ admission (Refused 11) ∷ [])
    -- JMP in other forms, with what it takes there, and BRK after it: LIT2r 0103 JMP2kr, LIT2 0103 JMP2, LITr 00 JMPr
    ∷ case (0x60 ∷ 0x00 ∷ 0x01 ∷ 0x00 ∷ 0xE0 ∷ 0x01 ∷ 0x03 ∷ 0xEC ∷ 0x00 ∷ []) enough
    (admission (Refused 11) ∷ [])
    ∷ case (0x60 ∷ 0x00 ∷ 0x01 ∷ 0x00 ∷ 0xA0 ∷ 0x01 ∷ 0x03 ∷ 0x2C ∷ 0x00 ∷ []) enough
    (admission (Refused 11) ∷ [])
    ∷ case (0x60 ∷ 0x00 ∷ 0x01 ∷ 0x00 ∷ 0xC0 ∷ 0x00 ∷ 0x4C ∷ 0x00 ∷ []) enough
    (admission (Refused 11) ∷ [])
    ∷ []

-- C-20: "High marks in the machine record."
unfoldable pub marks_raised : List Case
marks_raised =
    -- "the greatest pointer value": 2 after the second LIT, 1 at the end
    case (0x80 ∷ 0x05 ∷ 0x80 ∷ 0x03 ∷ 0x18 ∷ 0x00 ∷ []) enough
    (work_pointer 1 ∷ work_high 2 ∷ ret_high 0 ∷ [])
    -- "after any step": none was taken
    ∷ case (0x80 ∷ 0x05 ∷ 0x00 ∷ []) 0
    (work_high 0 ∷ ret_high 0 ∷ [])
    -- a call raises that of the return stack
    ∷ case (0x60 ∷ 0x00 ∷ 0x01 ∷ 0x00 ∷ 0x80 ∷ 0x07 ∷ 0x6C ∷ []) enough
    (work_high 1 ∷ ret_high 2 ∷ ret_is [] ∷ [])
    -- in return mode the stacks change places, and each keeps its mark: LITr 05, LIT2r 0506, LIT 01
    ∷ case (0xC0 ∷ 0x05 ∷ 0xE0 ∷ 0x05 ∷ 0x06 ∷ 0x80 ∷ 0x01 ∷ 0x00 ∷ []) enough
    (work_high 1 ∷ ret_high 3 ∷ [])
    -- a pointer that goes round: POP at 0 leaves it at 255
    ∷ case (0x02 ∷ 0x00 ∷ []) enough
    (work_pointer 255 ∷ work_high 255 ∷ [])
    -- inside an instruction it does not count: INC at 0 is at 255 between its pop and its push
    ∷ case (0x01 ∷ 0x00 ∷ []) enough
    (work_pointer 0 ∷ work_high 0 ∷ [])
    ∷ []

-- C-18: "Say which port was written."
unfoldable pub ports_written : List Case
ports_written =
    -- "none, one": LIT 00, LIT 18, DEO, BRK. DEO writes the byte that stands there
    case (0x80 ∷ 0x00 ∷ 0x80 ∷ 0x18 ∷ 0x17 ∷ 0x00 ∷ []) 1
    (next_ports [] ∷ [])
    ∷ case (0x80 ∷ 0x00 ∷ 0x80 ∷ 0x18 ∷ 0x17 ∷ 0x00 ∷ []) 2
    (next_ports (0x18 ∷ []) ∷ [])
    -- BRK writes none
    ∷ case (0x80 ∷ 0x00 ∷ 0x80 ∷ 0x18 ∷ 0x17 ∷ 0x00 ∷ []) 3
    (next_ports [] ∷ [])
    -- "or two in order": LIT2 1234, LIT FF, DEO2, BRK. After FF comes 00
    ∷ case (0xA0 ∷ 0x12 ∷ 0x34 ∷ 0x80 ∷ 0xFF ∷ 0x37 ∷ 0x00 ∷ []) 2
    (next_ports (0xFF ∷ 0x00 ∷ []) ∷ [])
    -- "stop after a step that wrote it, answering Paused with the steps so far"
    ∷ watching 0x18 (0x80 ∷ 0x00 ∷ 0x80 ∷ 0x18 ∷ 0x17 ∷ 0x00 ∷ []) enough
    (answers Paused ∷ steps 3 ∷ counter 0x0105 ∷ work_is [] ∷ work_high 2 ∷ [])
    -- "Paused goes before Spent on the last unit"
    ∷ watching 0x18 (0x80 ∷ 0x00 ∷ 0x80 ∷ 0x18 ∷ 0x17 ∷ 0x00 ∷ []) 3
    (answers Paused ∷ steps 3 ∷ [])
    ∷ watching 0x18 (0x80 ∷ 0x00 ∷ 0x80 ∷ 0x18 ∷ 0x17 ∷ 0x00 ∷ []) 2
    (answers Spent ∷ steps 2 ∷ [])
    -- the first port, the second, and the one after them
    ∷ watching 0xFF (0xA0 ∷ 0x12 ∷ 0x34 ∷ 0x80 ∷ 0xFF ∷ 0x37 ∷ 0x00 ∷ []) enough
    (answers Paused ∷ steps 3 ∷ [])
    ∷ watching 0x00 (0xA0 ∷ 0x12 ∷ 0x34 ∷ 0x80 ∷ 0xFF ∷ 0x37 ∷ 0x00 ∷ []) enough
    (answers Paused ∷ steps 3 ∷ [])
    ∷ watching 0x01 (0xA0 ∷ 0x12 ∷ 0x34 ∷ 0x80 ∷ 0xFF ∷ 0x37 ∷ 0x00 ∷ []) enough
    (answers Broke ∷ steps 4 ∷ [])
    -- LIT 19, LITr 05, LITr 18, DEOkr, BRK: the port is that of the return stack
    ∷ watching 0x18 (0x80 ∷ 0x19 ∷ 0xC0 ∷ 0x05 ∷ 0xC0 ∷ 0x18 ∷ 0xD7 ∷ 0x00 ∷ []) enough
    (answers Paused ∷ steps 4 ∷ work_is (0x19 ∷ []) ∷ ret_is (0x05 ∷ 0x18 ∷ []) ∷ next_ports [] ∷ [])
    ∷ watching 0x19 (0x80 ∷ 0x19 ∷ 0xC0 ∷ 0x05 ∷ 0xC0 ∷ 0x18 ∷ 0xD7 ∷ 0x00 ∷ []) enough
    (answers Broke ∷ steps 5 ∷ [])
    ∷ []

-- "Admission that .. takes depth 256 for 0": working depths at which ROT2 with keep, which takes six bytes and pushes six,
-- passes all the rules but the last, and at which it does not
unfoldable pub depths_fine : List ℕ
depths_fine = 6 ∷ 7 ∷ 249 ∷ []

unfoldable pub depths_not : List ℕ
depths_not = 0 ∷ 5 ∷ 250 ∷ 255 ∷ 256 ∷ []

-- C-19: "the return depth two above the caller's": return depths at which JSI passes them, and at which it does not
unfoldable pub call_depths_fine : List ℕ
call_depths_fine = 0 ∷ 252 ∷ 253 ∷ []

unfoldable pub call_depths_not : List ℕ
call_depths_not = 254 ∷ 255 ∷ 256 ∷ []

unfoldable pub depths_are : (ℕ → List Bool) → Bool → List ℕ → Bool
depths_are tests b [] = true
depths_are tests b (depth ∷ depths) = beq (all (tests depth)) b && depths_are tests b depths

abbrev pub rotate_tests : ℕ → List Bool
rotate_tests w = rule_tests (0xA5 ∷ []) start w 0

abbrev pub call_tests : ℕ → List Bool
call_tests r = rule_tests (0x60 ∷ 0x00 ∷ 0x00 ∷ []) start 0 r

-- ---- "Numbered replies": the number that a call answers, 0 if it is not refused, and the one that it should

-- a frame record: length, node number, bytes, zeros to the end
abbrev pub frame_record : ℕ → List ℕ → List ℕ
frame_record l bytes = l ∷ 0x07 ∷ bytes ++ zeros (frame_size - (2 + length bytes))

unfoldable pub numbered : List (ℕ × ℕ)
numbered =
    (number_of (load_call [] (used_with 65535 255 255 255)).answer, 1)
    ∷ (number_of (step_call (used_with 65536 257 255 255)).answer, 2)
    ∷ (number_of (run_call None 0 (used_with 65536 256 0 255)).answer, 3)
    ∷ (number_of (event_call None 16 0 (used_with 65536 256 256 257)).answer, 4)
    ∷ (number_of (frame_call [] 0 (used_with 65537 256 256 256)).answer, 1)
    ∷ (number_of (load_call [] used).answer, 5)
    ∷ (number_of (load_call (zeros 65280) used).answer, 0)
    ∷ (number_of (load_call (zeros 65281) used).answer, 5)
    ∷ (number_of (event_call None 15 0 used).answer, 0)
    ∷ (number_of (event_call None 16 0 used).answer, 6)
    ∷ (number_of (frame_call (replicate 127 0xAA) 0 used).answer, 7)
    ∷ (number_of (frame_call (replicate 129 0x00) 0 used).answer, 7)
    ∷ (number_of (frame_call (frame_record 126 (replicate 126 0xAA)) 0 used).answer, 0)
    ∷ (number_of (frame_call (frame_record 127 (replicate 126 0xAA)) 0 used).answer, 8)
    ∷ (number_of (frame_call (frame_record 0 (0x01 ∷ [])) 0 used).answer, 8)
    ∷ (number_of (admit_call [] (0x00 ∷ [])).answer, 5)
    ∷ (number_of (admit_call (replicate 4096 0x00) []).answer, 10)
    ∷ (number_of (admit_call (replicate 4097 0x00) []).answer, 9)
    ∷ (number_of (admit_call (0x02 ∷ []) (zeros 4)).answer, 10)
    ∷ (number_of (admit_call (0x02 ∷ []) (zeros 8)).answer, 11)
    ∷ []

abbrev pub agree : List (ℕ × ℕ) → Bool
agree [] = true
agree (pair ∷ pairs) = eqb pair.0 pair.1 && agree pairs

-- C-20: the greatest depths of the two sheets above, working and return, and what they should be
unfoldable pub greatest_depths : List (ℕ × ℕ)
greatest_depths =
    (greatest_depth 1 example_sheet, 2)
    ∷ (greatest_depth 2 example_sheet, 0)
    ∷ (greatest_depth 1 call_sheet, 1)
    ∷ (greatest_depth 2 call_sheet, 2)
    ∷ []

-- ---- frame and event calls, one after the other: what is found, and what should be

-- A filter whose verdict is the first data byte plus what port F2 holds, and which leaves a byte on the working stack:
-- LIT 82 LDZ LIT F2 DEI ADD LIT F2 DEO LIT 09 BRK
unfoldable pub summing : List ℕ
summing = 0x80 ∷ 0x82 ∷ 0x10 ∷ 0x80 ∷ 0xF2 ∷ 0x16 ∷ 0x18 ∷ 0x80 ∷ 0xF2 ∷ 0x17 ∷ 0x80 ∷ 0x09 ∷ 0x00 ∷ []

-- a load; a frame that is Broke; one that is Spent just before BRK; one that is Broke again; after it one that is refused, one with a
-- budget of one step, and one with none
unfoldable pub frames_seen : List (ℕ × ℕ)
frames_seen =
    let a = frame_call (frame_record 1 (0x03 ∷ [])) 9 (load_call summing used).state in
    let b = frame_call (frame_record 1 (0x04 ∷ [])) 8 a.state in
    let c = frame_call (frame_record 1 (0x05 ∷ [])) 10000 b.state in
    let d = frame_call [] 10000 c.state in
    let e = frame_call (frame_record 1 (0x06 ∷ [])) 1 c.state in
    let f = frame_call (frame_record 1 (0x06 ∷ [])) 0 c.state in
    (answer_code a.answer, answer_code Broke)
    ∷ (a.steps, 9)
    ∷ (a.verdict, 3)
    ∷ (a.state.work.pointer, 1)
    ∷ (answer_code b.answer, answer_code Spent)
    ∷ (b.steps, 8)
    ∷ (b.verdict, 0)
    ∷ (get_or b.state.devices 0xF2 0, 4)
    ∷ (c.verdict, 5)
    ∷ (c.state.work.pointer, 1)
    ∷ (c.state.ret.pointer, 0)
    ∷ (c.state.pc, 0x010D)
    ∷ (number (read_ring memory_size c.state.memory 0x0080 3), 0x010705)
    ∷ (a.state.high.work, 2)
    ∷ (a.state.high.ret, 0)
    ∷ (b.state.high.work, 2)
    ∷ (number_of d.answer, 7)
    ∷ (d.state.high.work, 2)
    ∷ (e.state.high.work, 1)
    ∷ (f.state.high.work, 0)
    ∷ []

-- a machine with this byte at 0200, zeros in the rest of memory and on the stacks, device 1 with the vector 0200, device 2 with the vector 0;
-- the high mark of the return stack is below its pointer
unfoldable pub vectored : ℕ → State
vectored byte =
    record {
      memory = zeros 0x0200 ++ (byte ∷ []) ++ zeros 0xFDFF;
      devices = zeros 16 ++ (0x02 ∷ 0x00 ∷ []) ++ zeros 238;
      work = stack (zeros stack_size) 3;
      ret = stack (zeros stack_size) 4;
      pc = 0x0300;
      high = high_marks 7 2;
    }

unfoldable pub events_seen : List (ℕ × ℕ)
events_seen =
    let a = event_call None 1 5 (vectored 0x00) in
    let b = event_call None 1 0 (vectored 0x00) in
    let c = event_call (Some 0x00) 2 5 (vectored 0x17) in
    let d = event_call (Some 0x00) 1 5 (vectored 0x17) in
    let e = event_call None 1 5 (vectored 0x17) in
    (answer_code a.answer, answer_code Broke)
    ∷ (a.steps, 1)
    ∷ (a.state.pc, 0x0201)
    ∷ (a.state.work.pointer, 3)
    ∷ (a.state.ret.pointer, 4)
    ∷ (answer_code b.answer, answer_code Spent)
    ∷ (b.steps, 0)
    ∷ (b.state.pc, 0x0200)
    ∷ (answer_code c.answer, answer_code Ignored)
    ∷ (c.steps, 0)
    ∷ (c.state.pc, 0x0300)
    ∷ (a.state.high.work, 7)
    ∷ (a.state.high.ret, 4)
    ∷ (b.state.high.ret, 2)
    ∷ (c.state.high.ret, 2)
    -- C-18: DEO, to port 00, and BRK after it; Ignored above is "nothing changed" with a watch too
    ∷ (answer_code d.answer, answer_code Paused)
    ∷ (d.steps, 1)
    ∷ (d.state.pc, 0x0201)
    ∷ (answer_code e.answer, answer_code Broke)
    ∷ (e.steps, 2)
    ∷ []

-- ---- "A step wraps a stack where a pop, a read under keep or a push goes round between 0 and 255."

-- a stack, an instruction byte, the pointer of that stack before it
pub record Place : Type 0 where
  pub stack : ℕ
  pub byte : ℕ
  pub pointer : ℕ

abbrev pub at_pointer : ℕ → ℕ → ℕ → Place
at_pointer k byte pointer = record { stack = k; byte = byte; pointer = pointer }

-- INC (01) pops one byte and pushes one, with keep (81) it reads one and pushes one above it; LIT (80) pushes one, LIT2
-- (A0) two; POP with keep (82) reads one; ROT2 (25) pops six and pushes six; DUP (06) pops one and pushes two; JSI (60)
-- pushes two on the return stack
unfoldable pub wrapping : List Place
wrapping =
    at_pointer working 0x01 0
    ∷ at_pointer working 0x81 255
    ∷ at_pointer working 0x80 255
    ∷ at_pointer working 0xA0 254
    ∷ at_pointer working 0x82 0
    ∷ at_pointer working 0x25 5
    ∷ at_pointer working 0x06 255
    ∷ at_pointer returning 0x60 254
    ∷ []

unfoldable pub not_wrapping : List Place
not_wrapping =
    at_pointer working 0x01 1
    ∷ at_pointer working 0x01 255
    ∷ at_pointer working 0x81 254
    ∷ at_pointer working 0x80 254
    ∷ at_pointer working 0xA0 253
    ∷ at_pointer working 0x82 1
    ∷ at_pointer working 0x25 6
    ∷ at_pointer working 0x60 255
    ∷ at_pointer returning 0x60 253
    ∷ []

-- each place is one where the step wraps that stack, or one where it does not
unfoldable pub wraps_are : Bool → List Place → Bool
wraps_are b [] = true
wraps_are b (x ∷ xs) = beq (stack_wraps x.stack x.byte x.pointer) b && wraps_are b xs

-- ---- C-19, moves of sheets: a call, and what it comes to

-- a marked record and one that is not marked, in the old form and in the new one
abbrev pub old_pair : List ℕ
old_pair = 1 ∷ 2 ∷ 3 ∷ 0xA0 ∷ 0 ∷ 0 ∷ 0 ∷ 0xF2 ∷ []

abbrev pub new_pair : List ℕ
new_pair = 1 ∷ 2 ∷ 3 ∷ 0xA0 ∷ 1 ∷ 0 ∷ 0 ∷ 0 ∷ 0 ∷ 0 ∷ 0 ∷ 0xF2 ∷ 0 ∷ 0 ∷ 0 ∷ 0 ∷ []

unfoldable pub move_cases : List (WriteResult × WriteResult)
move_cases =
    (widen_call old_pair (zeros 16), written new_pair (zeros 16))
    ∷ (narrow_call new_pair (zeros 8), written old_pair (zeros 8))
    -- "the rest of it stays"
    ∷ (widen_call (1 ∷ 255 ∷ 255 ∷ 9 ∷ []) (7 ∷ 7 ∷ 7 ∷ 7 ∷ 7 ∷ 7 ∷ 7 ∷ 7 ∷ 5 ∷ 6 ∷ []), record { number = 0; length = 8; output = 1 ∷ 255 ∷ 255 ∷ 9 ∷ 1 ∷ 0 ∷ 0 ∷ 0 ∷ 5 ∷ 6 ∷ [] })
    -- no record at all
    ∷ (widen_call [] (5 ∷ []), written [] (5 ∷ []))
    ∷ (narrow_call [] [], written [] [])
    -- "nothing written"
    ∷ (widen_call (1 ∷ 255 ∷ 255 ∷ 9 ∷ []) (5 ∷ 6 ∷ 7 ∷ []), record { number = 13; length = 0; output = 5 ∷ 6 ∷ 7 ∷ [] })
    -- "13 for a short output"
    ∷ (widen_call old_pair (zeros 15), unwritten 13 (zeros 15))
    ∷ (narrow_call new_pair (zeros 7), unwritten 13 (zeros 7))
    -- 18 comes first: "a part record"
    ∷ (widen_call (0 ∷ 0 ∷ 0 ∷ []) [], unwritten 18 [])
    ∷ (narrow_call (0 ∷ 0 ∷ 0 ∷ 0 ∷ []) [], unwritten 18 [])
    -- "a mark above 1"
    ∷ (widen_call (2 ∷ 0 ∷ 0 ∷ 0 ∷ []) [], unwritten 18 [])
    ∷ (narrow_call (2 ∷ 0 ∷ 0 ∷ 0 ∷ 1 ∷ 0 ∷ 0 ∷ 0 ∷ []) [], unwritten 18 [])
    -- "an unmarked record not 0 but for its program byte"
    ∷ (widen_call (0 ∷ 0 ∷ 1 ∷ 0 ∷ []) [], unwritten 18 [])
    ∷ (narrow_call (0 ∷ 0 ∷ 0 ∷ 0 ∷ 1 ∷ 0 ∷ 0 ∷ 0 ∷ []) [], unwritten 18 [])
    -- "a marked routine 0 or last pair not 0", also after one that can not go back
    ∷ (narrow_call (1 ∷ 0 ∷ 0 ∷ 0 ∷ 0 ∷ 0 ∷ 0 ∷ 0 ∷ []) [], unwritten 18 [])
    ∷ (narrow_call (1 ∷ 0 ∷ 0 ∷ 0 ∷ 2 ∷ 0 ∷ 0 ∷ 0 ∷ 1 ∷ 0 ∷ 0 ∷ 0 ∷ 1 ∷ 0 ∷ 0 ∷ 1 ∷ []) [], unwritten 18 [])
    -- "then 19 for one that can't go back", before 13
    ∷ (narrow_call (1 ∷ 0 ∷ 0 ∷ 0 ∷ 1 ∷ 1 ∷ 0 ∷ 0 ∷ []) [], unwritten 19 [])
    ∷ (narrow_call (1 ∷ 0 ∷ 0 ∷ 0 ∷ 2 ∷ 0 ∷ 0 ∷ 0 ∷ []) (zeros 4), unwritten 19 (zeros 4))
    ∷ []

-- C-16, moves of files of frame records: a record of the old form, and the calls

-- length, node number, bytes, zeros to the end
abbrev pub old_frame : ℕ → List ℕ → List ℕ
old_frame l bytes = l ∷ 0x07 ∷ bytes ++ zeros (62 - length bytes)

unfoldable pub record_move_cases : List (WriteResult × WriteResult)
record_move_cases =
    -- "move each to the new form by adding zeros"
    (widen_records (old_frame 2 (0x09 ∷ 0x08 ∷ []) ++ old_frame 0 []) (zeros 256), written (frame_record 2 (0x09 ∷ 0x08 ∷ []) ++ frame_record 0 []) (zeros 256))
    -- "and back where L is at most 62"
    ∷ (narrow_records (frame_record 62 (replicate 62 0xAA) ++ frame_record 0 []) (zeros 128), written (old_frame 62 (replicate 62 0xAA) ++ old_frame 0 []) (zeros 128))
    -- "the rest of it stays"
    ∷ (widen_records (old_frame 0 []) (replicate 130 0xBB), record { number = 0; length = 128; output = frame_record 0 [] ++ (0xBB ∷ 0xBB ∷ []) })
    -- no record at all
    ∷ (widen_records [] (5 ∷ []), written [] (5 ∷ []))
    ∷ (narrow_records [] [], written [] [])
    -- "nothing written"
    ∷ (narrow_records (frame_record 63 []) (replicate 64 0xBB), record { number = 16; length = 0; output = replicate 64 0xBB })
    -- "13 for a short output"
    ∷ (widen_records (old_frame 0 []) (zeros 127), unwritten 13 (zeros 127))
    ∷ (narrow_records (frame_record 0 []) (zeros 63), unwritten 13 (zeros 63))
    -- "15 for a file not of whole records" comes first: a broken one, and one too long
    ∷ (widen_records (63 ∷ []) [], unwritten 15 [])
    ∷ (narrow_records (frame_record 127 [] ++ zeros 64) [], unwritten 15 [])
    ∷ (narrow_records (frame_record 126 [] ++ (0 ∷ [])) [], unwritten 15 [])
    -- "then 8 for a broken one by its form's rules": L above 62 and above 126, a byte past the data
    ∷ (widen_records (old_frame 0 [] ++ old_frame 63 []) [], unwritten 8 [])
    ∷ (widen_records (old_frame 1 (0x09 ∷ 0x08 ∷ [])) [], unwritten 8 [])
    ∷ (narrow_records (frame_record 127 []) [], unwritten 8 [])
    ∷ (narrow_records (frame_record 62 (replicate 63 0xAA)) [], unwritten 8 [])
    -- also after one that is too long
    ∷ (narrow_records (frame_record 126 [] ++ frame_record 127 []) [], unwritten 8 [])
    -- "then 16 for one too long to go back", before 13
    ∷ (narrow_records (frame_record 62 [] ++ frame_record 63 []) [], unwritten 16 [])
    ∷ []

abbrev pub comes : WriteResult × WriteResult → Bool
comes pair =
    eqb pair.0.number pair.1.number
    && eqb pair.0.length pair.1.length
    && same_bytes pair.0.output pair.1.output

unfoldable pub all_come : List (WriteResult × WriteResult) → Bool
all_come [] = true
all_come (pair ∷ pairs) = comes pair && all_come pairs
