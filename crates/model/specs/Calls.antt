-- Document 01, "Calls" and "Numbered replies", and document 02's C-15: the seven calls, for lent buffers of any length.
-- Assumes nothing.
use Rattle.std.specs.Prelude.{Bool, true, cond, not, ◌&&◌, ◌||◌, List, [], ◌∷◌, ◌++◌, ℕ, zero, suc, ◌+◌, ◌-◌, ◌*◌, eqb, ltb, leb, length, get_or, set, take, drop, Option, None}
use Rattle.model.specs.Bytes.{number, read_ring, zeros}
use Rattle.model.specs.Machine.{memory_size, page_size, stack_size, start, stack, high_marks, State}
use Rattle.model.specs.Run.{Answer, Reply, reply, step_reply, run, trace}
use Rattle.model.specs.Run.Answer.{Refused, Loaded, WentOn, Broke, Spent, Paused, Ignored, Admitted}
use Rattle.model.specs.Admission.{admit_most, admitted, reached, sheet_record, sheet_of}

-- ---- numbered replies

-- a number, and when it is given
abbrev pub Row : Type 0
Row = ℕ × Bool

-- "Each is given when its row says and no smaller number of the call applies": the first row that says so; 0 if none does
unfoldable pub refusal : List Row → ℕ
refusal [] = 0
refusal (row ∷ rows) = cond row.1 row.0 (refusal rows)

abbrev pub has_length : List ℕ → ℕ → Bool
has_length bytes n = eqb (length bytes) n

-- "memory, device page, working stack, return stack of wrong length"
unfoldable pub buffer_rows : State → List Row
buffer_rows s =
    (1, not (has_length s.memory memory_size))
    ∷ (2, not (has_length s.devices page_size))
    ∷ (3, not (has_length s.work.bytes stack_size))
    ∷ (4, not (has_length s.ret.bytes stack_size))
    ∷ []

-- the number of an answer: 0 unless it is a refusal
abbrev pub number_of : Answer → ℕ
number_of (Refused n) = n
number_of Loaded = 0
number_of WentOn = 0
number_of Broke = 0
number_of Spent = 0
number_of Paused = 0
number_of Ignored = 0
number_of Admitted = 0

-- "A refusal returns its number, 0 steps, verdict 0 and that record unchanged", and leaves "all as found"; without one
-- the call does what it does
unfoldable pub unless : ℕ → State → Reply → Reply
unless zero s done = done
unless (suc n) s done = reply (Refused (suc n)) 0 0 s

-- the state, its counter at this address
abbrev pub from : ℕ → State → State
from at s = record { memory = s.memory; devices = s.devices; work = s.work; ret = s.ret; pc = at; high = s.high }

-- ---- load

-- the most bytes that a program may have: 0100 to FFFF
abbrev pub load_most : ℕ
load_most = 65280

-- "program empty; at load also above 65,280 bytes"
unfoldable pub load_rows : List ℕ → State → List Row
load_rows program s = buffer_rows s ++ ((5, has_length program 0 || ltb load_most (length program)) ∷ [])

-- "memory is zero but for the program at 0100 hexadecimal; device page and stacks are zero; both pointers 0; counter 0100";
-- C-20: the high marks are 0
unfoldable pub load : List ℕ → State
load program =
    record {
      memory = zeros start ++ program ++ zeros (load_most - length program);
      devices = zeros page_size;
      work = stack (zeros stack_size) 0;
      ret = stack (zeros stack_size) 0;
      pc = start;
      high = high_marks 0 0;
    }

unfoldable pub load_call : List ℕ → State → Reply
load_call program s = unless (refusal (load_rows program s)) s (reply Loaded 0 0 (load program))

-- ---- step and run

unfoldable pub step_call : State → Reply
step_call s = unless (refusal (buffer_rows s)) s (step_reply s)

-- C-18: "Runs and events .. take one watched port or none"
unfoldable pub run_call : Option ℕ → ℕ → State → Reply
run_call watch budget s = unless (refusal (buffer_rows s)) s (run watch budget s)

-- ---- event

-- "device above 15"
unfoldable pub event_rows : ℕ → State → List Row
event_rows device s = buffer_rows s ++ ((6, ltb 15 device) ∷ [])

-- "the vector is the 16-bit number at port 16 x d"
unfoldable pub vector : ℕ → State → ℕ
vector device s = number (read_ring page_size s.devices (16 * device) 2)

-- "Zero: Ignored, 0 steps, nothing changed. Else run from it; stacks and pointers are retained.", C-20: and the
-- high marks, for it is no frame start
unfoldable pub event_call : Option ℕ → ℕ → ℕ → State → Reply
event_call watch device budget s =
    unless (refusal (event_rows device s)) s
    (cond (eqb (vector device s) 0) (reply Ignored 0 0 s) (run watch budget (from (vector device s) s)))

-- ---- frame

-- C-16: "the record becomes 128 bytes with L from 0 to 126"; as before it has "no header: length L .., node number, L data bytes,
-- zeros to the end"
abbrev pub frame_size : ℕ
frame_size = 128

abbrev pub frame_most : ℕ
frame_most = 126

-- where it is written, and the port of the verdict
abbrev pub frame_place : ℕ
frame_place = 0x0080

abbrev pub verdict_port : ℕ
verdict_port = 0xF2

abbrev pub all_zero : List ℕ → Bool
all_zero [] = true
all_zero (b ∷ bs) = eqb b 0 && all_zero bs

-- not "L above 126 or a tail byte not 0", in a record whose data may have so many bytes
unfoldable pub well_formed : ℕ → List ℕ → Bool
well_formed most frame = leb (get_or frame 0 0) most && all_zero (drop (2 + get_or frame 0 0) frame)

-- C-16: "7 now means not 128", then 8
unfoldable pub frame_rows : List ℕ → State → List Row
frame_rows frame s =
    buffer_rows s ++ ((7, not (has_length frame frame_size)) ∷ (8, not (well_formed frame_most frame)) ∷ [])

-- "Port F2 is set to 0", C-16: the record is "written to 0080 to 00FF", "both pointers become 0", and the counter 0100; C-20: the high
-- marks become 0
unfoldable pub framed : List ℕ → State → State
framed frame s =
    record {
      memory = take frame_place s.memory ++ frame ++ drop (frame_place + length frame) s.memory;
      devices = set s.devices verdict_port 0;
      work = stack s.work.bytes 0;
      ret = stack s.ret.bytes 0;
      pc = start;
      high = high_marks 0 0;
    }

-- "The verdict is port F2 if Broke and 0 if Spent"
abbrev pub verdict_of : Answer → State → ℕ
verdict_of Broke s = get_or s.devices verdict_port 0
verdict_of (Refused n) s = 0
verdict_of Loaded s = 0
verdict_of WentOn s = 0
verdict_of Spent s = 0
verdict_of Paused s = 0
verdict_of Ignored s = 0
verdict_of Admitted s = 0

abbrev pub with_verdict : Reply → Reply
with_verdict r = reply r.answer r.steps (verdict_of r.answer r.state) r.state

-- C-18: "Frame calls watch nothing and answer as before."
unfoldable pub frame_call : List ℕ → ℕ → State → Reply
frame_call frame budget s = unless (refusal (frame_rows frame s)) s (with_verdict (run None budget (framed frame s)))

-- the states before each step of that call: none if it is refused
unfoldable pub frame_trace : List ℕ → ℕ → State → List State
frame_trace frame budget s = elim (refusal (frame_rows frame s)) [ zero ↦ trace None budget (framed frame s) | suc n ↦ [] ]

-- "0 drops the frame, any other number passes it"
abbrev pub passed : ℕ → Bool
passed verdict = not (eqb verdict 0)

-- ---- admit

-- the answer of an admission, and the sheet afterwards
pub record AdmitResult : Type 0 where
  pub answer : Answer
  pub sheet : List ℕ

-- "program empty", "above 4,096 bytes", C-19: "not eight times the program length", "no assignment"
unfoldable pub admit_rows : List ℕ → List ℕ → List Row
admit_rows program sheet =
    (5, has_length program 0)
    ∷ (9, ltb admit_most (length program))
    ∷ (10, not (has_length sheet (sheet_record * length program)))
    ∷ (11, not (admitted program))
    ∷ []

-- the sheet is written; 11 leaves "sheet all zero"; 5, 9 and 10 leave the "sheet as found"
unfoldable pub admit_by : ℕ → List ℕ → List ℕ → AdmitResult
admit_by zero program sheet = record { answer = Admitted; sheet = sheet_of (reached program) program }
admit_by (suc n) program sheet =
    record { answer = Refused (suc n); sheet = cond (eqb (suc n) 11) (zeros (length sheet)) sheet }

unfoldable pub admit_call : List ℕ → List ℕ → AdmitResult
admit_call program sheet = admit_by (refusal (admit_rows program sheet)) program sheet

-- ---- install: C-15, "Load and admit become one"

-- the reply of an install, and the sheet afterwards
pub record InstallResult : Type 0 where
  pub reply : Reply
  pub sheet : List ℕ

-- C-15: "Refusals: 1 to 4, 5 (empty only), 9, 10, 11": for the buffers of the machine, then as admission refuses
unfoldable pub install_rows : List ℕ → List ℕ → State → List Row
install_rows program sheet s = buffer_rows s ++ admit_rows program sheet

-- C-15: "a filter goes in only if admitted, its sheet written by the same call. If not, the old one keeps running": "the four
-- machine buffers stay; 11 zeroes the sheet lent"; so the machine is as load leaves it or as found, the sheet as admission leaves it
unfoldable pub install_by : ℕ → List ℕ → List ℕ → State → InstallResult
install_by n program sheet s = record { reply = unless n s (load_call program s); sheet = (admit_by n program sheet).sheet }

unfoldable pub install_call : List ℕ → List ℕ → State → InstallResult
install_call program sheet s = install_by (refusal (install_rows program sheet s)) program sheet s
