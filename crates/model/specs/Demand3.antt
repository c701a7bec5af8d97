-- Demand 3, in the user's words (quoted), with document 01's "What the inspector signs" (quoted, marked 01) and document 02's
-- C-15, C-19 and C-20.
-- Assumes nothing.
use Rattle.std.specs.Prelude.{◌≡◌, false, cond, ◌↔◌, List, [], ◌∷◌, ◌++◌, ℕ, zero, suc, ◌+◌, ◌/◌, ◌≤◌, eqb, length, take, drop}
use Rattle.model.specs.Bytes.{Every, Bytes, greater}
use Rattle.model.specs.Machine.{memory_size, page_size, stack_size, start, State, state, registers, Sized}
use Rattle.model.specs.Instruction.{shape_of}
use Rattle.model.specs.Step.{next_of, fetched, step, wraps}
use Rattle.model.specs.Run.Answer.{Loaded}
use Rattle.model.specs.Admission.{Assignable, sheet_record, Marked, record_byte}
use Rattle.model.specs.Calls.{frame_call, frame_trace, install_call}
use Rattle.model.specs.Exactness.{Proper, Exact}

-- ---- a call of the list

-- n bytes
pub record Filling (n : ℕ) : Type 0 where
  pub bytes : List ℕ
  pub size : length bytes ≡ n
  pub are_bytes : Bytes bytes

-- what is called
pub data Request : Type 0 where
  -- "frame calls .. whatever their records and budgets": any bytes, as many as there may be, and any number
  frame : (bytes : List ℕ) → Bytes bytes → (budget : ℕ) → Request
  -- C-15: "calls of this kind among the frame calls": any program and any sheet
  install : (program sheet : List ℕ) → Request

-- what may be lent in place of the machine's own buffer of n bytes: to a frame call (01) "a buffer of wrong length", to an
-- install any
abbrev pub Other : Request → ℕ → List ℕ → Type 0
Other (frame bytes are_bytes budget) n instead = length instead ≡ n → ⊥
Other (install program sheet) n instead = Unit {0}

pub data Lent (r : Request) (n : ℕ) : Type 0 where
  own : Lent r n
  other : (instead : List ℕ) → Other r n instead → Lent r n

pub record Call : Type 0 where
  pub request : Request
  -- "whatever bytes are put into zero page, device page and stacks before each call": any, so those too that stand there;
  -- (01) "Zero page is 0000 to 00FF"
  pub zero_page : Filling start
  pub device_page : Filling page_size
  pub work_bytes : Filling stack_size
  pub ret_bytes : Filling stack_size
  -- "refused ones too": (01) "in place of one or more of the four"
  pub memory : Lent request memory_size
  pub devices : Lent request page_size
  pub work : Lent request stack_size
  pub ret : Lent request stack_size

-- the machine before the call, the bytes put in
unfoldable pub filled : Call → State → State
filled c s =
    state
    (c.zero_page.bytes ++ drop start s.memory)
    c.device_page.bytes
    c.work_bytes.bytes
    c.ret_bytes.bytes
    (registers s)

-- a buffer that is lent, and the machine's own afterwards: as it was left, if it was lent
abbrev pub lent : {r : Request} {n : ℕ} → Lent r n → List ℕ → List ℕ
lent own mine = mine
lent (other instead may) mine = instead

abbrev pub back : {r : Request} {n : ℕ} → Lent r n → List ℕ → List ℕ → List ℕ
back own mine afterwards = afterwards
back (other instead may) mine afterwards = mine

-- what the call gets, the machine being s
unfoldable pub given : Call → State → State
given c s =
    state
    (lent c.memory s.memory)
    (lent c.devices s.devices)
    (lent c.work s.work.bytes)
    (lent c.ret s.ret.bytes)
    (registers s)

-- the machine after a call that left t: (01) "the machine record that the last one returned and the buffers as that one left
-- them"
unfoldable pub handed_back : Call → State → State → State
handed_back c s t =
    state
    (back c.memory s.memory t.memory)
    (back c.devices s.devices t.devices)
    (back c.work s.work.bytes t.work.bytes)
    (back c.ret s.ret.bytes t.ret.bytes)
    (registers t)

-- what the call gets: "otherwise each call gets what the one before it left"
abbrev pub called : Call → State → State
called c s = given c (filled c s)

-- the state that it leaves, of the one that it gets
abbrev pub leaves : Request → State → State
leaves (frame bytes are_bytes budget) s = (frame_call bytes budget s).state
leaves (install program sheet) s = (install_call program sheet s).reply.state

-- the states before each of its steps; an install takes none
abbrev pub traced : Request → State → List State
traced (frame bytes are_bytes budget) s = frame_trace bytes budget s
traced (install program sheet) s = []

-- the machine after the call
abbrev pub next : Call → State → State
next c s = handed_back c (filled c s) (leaves c.request (called c s))

-- C-15: "allows refused calls of this kind": an install stands in the list only if it is refused
abbrev pub Stands : Request → State → Type 0
Stands (frame bytes are_bytes budget) s = Unit {0}
Stands (install program sheet) s = (install_call program sheet s).reply.answer ≡ Loaded → ⊥

-- so with each one of these calls, the machine being s before the first
abbrev pub InstallsRefused : State → List Call → Type 0
InstallsRefused s [] = Unit {0}
InstallsRefused s (c ∷ cs) = Stands c.request (called c s) × InstallsRefused (next c s) cs

-- ---- what holds

-- "every byte of the filter in memory is the one loaded"
abbrev pub Intact : List ℕ → State → Type 0
Intact filter s = take (length filter) (drop start s.memory) ≡ filter

-- "Before every step in the list"
pub record Sound (filter sheet : List ℕ) (s : State) : Type 0 where
  -- "the program counter is at a marked address"
  pub marked : Marked sheet s.pc
  -- "and both stack pointers equal the depths on its sheet there"
  pub work : s.work.pointer ≡ record_byte sheet s.pc 1
  pub ret : s.ret.pointer ≡ record_byte sheet s.pc 2
  -- "No step wraps a stack."
  pub no_wrap : wraps s ≡ false
  -- "Before every step .. every byte of the filter in memory is the one loaded."
  pub intact : Intact filter s

-- C-19: the calls that are open, the last one first, each by the address just after it. JSI opens one, 6C closes the last one,
-- and another step leaves them
abbrev pub open_after : State → List ℕ → List ℕ
open_after s opened =
    cond (eqb (fetched s) 0x60) (next_of (shape_of 0x60) s ∷ opened)
    (cond (eqb (fetched s) 0x6C) (drop 1 opened)
    opened)

-- C-19: "each 6C lands just after its call": a step with 6C has an open call, and goes to the address just after the last one
abbrev pub Lands : List ℕ → State → Type 0
Lands [] s = fetched s ≡ 0x6C → ⊥
Lands (after ∷ opened) s = fetched s ≡ 0x6C → (step s).pc ≡ after

-- so does each of the steps from these states on
abbrev pub EachLands : List ℕ → List State → Type 0
EachLands opened [] = Unit {0}
EachLands opened (s ∷ states) = Lands opened s × EachLands (open_after s opened) states

-- C-20: the greatest of byte k of the sheet's first n records
unfoldable pub greatest_of : ℕ → ℕ → List ℕ → ℕ
greatest_of k zero sheet = 0
greatest_of k (suc n) sheet = greater (greatest_of k n sheet) (record_byte sheet (start + n) k)

-- C-20: "the greatest depth in its sheet column", of all records: with k = 1 the working depths, with k = 2 the return depths
abbrev pub greatest_depth : ℕ → List ℕ → ℕ
greatest_depth k sheet = greatest_of k (length sheet / sheet_record) sheet

-- C-20: "each is at most the greatest depth in its sheet column"
pub record HighInSheet (sheet : List ℕ) (s : State) : Type 0 where
  pub work : s.high.work ≤ greatest_depth 1 sheet
  pub ret : s.high.ret ≤ greatest_depth 2 sheet

-- along the list: "Before every step", and "after every call", and before the first one; a frame call starts with no call open;
-- C-20: "After a frame call of demand 3 that is not refused", and after one that is, for it leaves the high marks
abbrev pub Safe : (filter sheet : List ℕ) → State → List Call → Type 0
Safe filter sheet s [] = Intact filter s × HighInSheet sheet s
Safe filter sheet s (c ∷ cs) =
    Intact filter s
    × HighInSheet sheet s
    × Every (Sound filter sheet) (traced c.request (called c s))
    × EachLands [] (traced c.request (called c s))
    × Safe filter sheet (next c s) cs

pub record Demand3 : Type 0 where
  -- of admission: "A filter of 1 to 4,096 bytes, given a sheet of the right length, is admitted exactly when depths for its
  -- addresses exist that obey the admission rules of document 01."
  pub exact : Exact
  -- C-15: "a filter goes in only if admitted", "given machine buffers of the right lengths too": then the same of its install
  pub installed : (filter sheet : List ℕ) → Proper filter sheet → (s : State) → Sized s
      → ((install_call filter sheet s).reply.answer ≡ Loaded) ↔ Assignable filter
  -- C-15: "Demand 3 starts here": "the following holds for every list of frame calls from there": for every filter, which is
  -- bytes, whatever sheet and whatever machine the install was given, if it is not refused; it "speaks of the sheet as its load
  -- wrote it and allows refused calls of this kind among the frame calls"
  pub safe : (filter sheet : List ℕ) → Bytes filter → (s : State) → (install_call filter sheet s).reply.answer ≡ Loaded
      → (calls : List Call) → InstallsRefused (install_call filter sheet s).reply.state calls
      → Safe filter (install_call filter sheet s).sheet (install_call filter sheet s).reply.state calls
