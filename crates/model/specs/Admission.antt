-- Document 01, "Admission rules", with document 02's C-12 and C-19 (quoted with their names): assignments of depths and routines
-- to the addresses of a program, the smallest one, and the sheet.
-- Assumes nothing.
use Rattle.std.specs.Prelude.{◌≡◌, ◌⊎◌, Bool, true, false, cond, not, ◌&&◌, ◌||◌, List, [], ◌∷◌, ◌++◌, ℕ, zero, suc, ◌+◌, ◌-◌, ◌*◌, ◌/◌, ◌%◌, ◌≤◌, ◌<◌, T, eqb, ltb, leb, length, get_or, set, replicate, take, drop}
use Rattle.model.specs.Bytes.{Every, Among, number, one_of}
use Rattle.model.specs.Machine.{start}
use Rattle.model.specs.Instruction.{keep_mode, working, returning, taken_from, pushed_on, length_of}
use Rattle.model.specs.Step.{offset}

-- "above 4,096 bytes" a program is not admitted
abbrev pub admit_most : ℕ
admit_most = 4096

-- an address is not marked, or is marked with a working depth, a return depth and a routine. C-19: "Marked addresses now also
-- have a routine"
pub data Mark : Type 0 where
  unmarked : Mark
  marked : ℕ → ℕ → ℕ → Mark

-- how many of the addresses are marked
unfoldable pub count_marked : List Mark → ℕ
count_marked [] = 0
count_marked (unmarked ∷ marks) = count_marked marks
count_marked (marked w r q ∷ marks) = suc (count_marked marks)

-- the byte of a program at an address
unfoldable pub byte_at : List ℕ → ℕ → ℕ
byte_at program at = get_or program (at - start) 0

-- the address is in the program
abbrev pub Within : List ℕ → ℕ → Type 0
Within program at = (start ≤ at) × (at < start + length program)

-- "it is none of JMP, JCN, JSR, STR, STA in any mode". C-19: "Admit JSI, with return by JMP in 16-bit return form without keep
-- (byte 6C)". C-12: "16-bit STZ can no longer reach 0100, so admission lets it through under the depth rules."
unfoldable pub allowed : ℕ → Bool
allowed byte = eqb byte 0x6C || not (one_of (byte % 32) (0x0C ∷ 0x0D ∷ 0x0E ∷ 0x13 ∷ 0x15 ∷ []))

-- the depth of the stack k after an instruction, from its depth before: what it takes goes, but under keep
abbrev pub depth_after : ℕ → ℕ → ℕ → ℕ
depth_after k byte depth = depth - cond (keep_mode byte) 0 (taken_from k byte) + pushed_on k byte

-- the depths after it, in the routine q
abbrev pub mark_after : ℕ → ℕ → ℕ → ℕ → Mark
mark_after byte w r q = marked (depth_after working byte w) (depth_after returning byte r) q

-- the address after an instruction
unfoldable pub after_of : List ℕ → ℕ → ℕ
after_of program at = at + length_of (byte_at program at)

-- the target of JCI, JMI or JSI
unfoldable pub target_of : List ℕ → ℕ → ℕ
target_of program at = offset (after_of program at) (number (byte_at program (at + 1) ∷ byte_at program (at + 2) ∷ []))

-- "each address where it may go on (after it; for JMI its target; for JCI both) .. marked with the depths after it. BRK goes
-- nowhere": the addresses and their marks, from an address that is marked with w, r and q. C-19: JSI goes on at its target, in the
-- routine of that address; where a 6C goes is up to the calls (`Assignment`, `back`)
unfoldable pub successors : List ℕ → ℕ → ℕ → ℕ → ℕ → List (ℕ × Mark)
successors program at w r q =
    let byte = byte_at program at in
    let mark = mark_after byte w r q in
    let after = after_of program at in
    let target = target_of program at in
    cond (eqb byte 0x00) []
    (cond (eqb byte 0x20) ((after, mark) ∷ (target, mark) ∷ [])
    (cond (eqb byte 0x40) ((target, mark) ∷ [])
    (cond (eqb byte 0x60) ((target, mark_after byte w r target) ∷ [])
    (cond (eqb byte 0x6C) []
    ((after, mark) ∷ [])))))

-- "the addresses reached from 0100": a way leads from 0100, where both depths are 0, to an address with the depths and the
-- routine there: on to a successor; C-19: and from a call and a return of its routine to "the address after the call", with the
-- working depth of the return "and the caller's return depth and routine"
pub data Way (program : List ℕ) : ℕ → ℕ → ℕ → ℕ → Type 0 where
  begin : Way program start 0 0 start
  go : {at w r q to v s p : ℕ} → Way program at w r q → Among (to, marked v s p) (successors program at w r q) → Way program to v s p
  return : {at w r q to v s : ℕ} → Way program at w r q → byte_at program at ≡ 0x60
      → Way program to v s (target_of program at) → byte_at program to ≡ 0x6C → Way program (after_of program at) v r q

-- ---- the rules, for marks of any kind

-- "each address where it may go on .. is in the program and marked with the depths after it"
abbrev pub GoesOn : List ℕ → (ℕ → Mark) → ℕ × Mark → Type 0
GoesOn program marks next = Within program next.0 × (marks next.0 ≡ next.1)

-- C-19: a marked JSI has the target q
pub record Called (program : List ℕ) (marks : ℕ → Mark) (q : ℕ) : Type 0 where
  pub at : ℕ
  pub work : ℕ
  pub ret : ℕ
  pub routine : ℕ
  pub here : marks at ≡ marked work ret routine
  pub calls : byte_at program at ≡ 0x60
  pub enters : target_of program at ≡ q

-- C-19: "the routine has a marked return": a 6C is marked in the routine q, with the working depth v
pub record Leaves (program : List ℕ) (marks : ℕ → Mark) (q v : ℕ) : Type 0 where
  pub at : ℕ
  pub ret : ℕ
  pub here : marks at ≡ marked v ret q
  pub returns : byte_at program at ≡ 0x6C

-- the return depth of a mark
abbrev pub ret_of : Mark → ℕ
ret_of unmarked = 0
ret_of (marked w r q) = r

-- C-19: "Every call enters a routine with the same two depths", those of the routine's own address; "the return depth two above the
-- caller's: its floor"
abbrev pub floor : (ℕ → Mark) → ℕ → ℕ
floor marks q = ret_of (marks q)

-- at an address that is marked with w, r and q
pub record Rules (program : List ℕ) (marks : ℕ → Mark) (at w r q : ℕ) : Type 0 where
  -- "depths, 0 to 255 each"
  pub work_low : w ≤ 255
  pub ret_low : r ≤ 255
  -- "the whole instruction lies in the program"
  pub placed : start ≤ at
  pub inside : at + length_of (byte_at program at) ≤ start + length program
  -- "it is none of .."
  pub fine : T (allowed (byte_at program at))
  -- "each stack holds the bytes that it takes, keep or not"
  pub work : taken_from working (byte_at program at) ≤ w
  pub ret : taken_from returning (byte_at program at) ≤ r
  -- "and no depth after it is above 255"
  pub work_top : depth_after working (byte_at program at) w ≤ 255
  pub ret_top : depth_after returning (byte_at program at) r ≤ 255
  -- "each address where it may go on .."
  pub on : Every (GoesOn program marks) (successors program at w r q)
  -- C-19: "a routine: 0100, or the JSI target that led there"
  pub routine : (q ≡ start) ⊎ Called program marks q
  -- C-19: "In it only 6C takes return bytes below the floor": what another one takes, keep or not, is above it
  pub above : (byte_at program at ≡ 0x6C → ⊥) → floor marks q + taken_from returning (byte_at program at) ≤ r
  -- C-19: "it stands only at the floor, never in routine 0100"
  pub low : byte_at program at ≡ 0x6C → r ≡ floor marks q
  pub inner : byte_at program at ≡ 0x6C → q ≡ start → ⊥

-- "An assignment marks some addresses with depths .. such that"
pub record Assignment (program : List ℕ) (marks : ℕ → Mark) : Type 0 where
  -- "0100 is marked with 0 and 0", in the routine 0100
  pub first : marks start ≡ marked 0 0 start
  -- "at a marked address .."; C-19: "No address has two routines", for a mark has one
  pub rules : (at w r q : ℕ) → marks at ≡ marked w r q → Rules program marks at w r q
  -- C-19: 6C "leaves with one working depth for the whole routine"
  pub one : (q v w : ℕ) → Leaves program marks q v → Leaves program marks q w → v ≡ w
  -- C-19: "The address after the call is marked with that depth and the caller's return depth and routine, if the routine has a
  -- marked return; else the call doesn't mark it."
  pub back : (q v : ℕ) (call : Called program marks q) → Leaves program marks q v
      → GoesOn program marks (after_of program call.at, marked v call.ret call.routine)

-- "an assignment exists"
abbrev pub Assignable : List ℕ → Type 0
Assignable program = (marks : ℕ → Mark) × Assignment program marks

-- ---- the same rules as a test, for a list of marks, one for each program byte

-- the mark of an address; the first mark stands for 0100
unfoldable pub mark_at : List Mark → ℕ → Mark
mark_at marks at = cond (ltb at start) unmarked (get_or marks (at - start) unmarked)

abbrev pub same_mark : Mark → Mark → Bool
same_mark unmarked unmarked = true
same_mark unmarked (marked w r q) = false
same_mark (marked w r q) unmarked = false
same_mark (marked w r q) (marked v s p) = eqb w v && eqb r s && eqb q p

abbrev pub all : List Bool → Bool
all [] = true
all (x ∷ xs) = x && all xs

-- the first mark that passes the test, or none; the first of them stands for the address at
unfoldable pub found : (ℕ → Mark → Bool) → ℕ → List Mark → Mark
found test at [] = unmarked
found test at (x ∷ xs) = cond (test at x) x (found test (at + 1) xs)

-- a marked JSI with the target q, and a 6C that is marked in the routine q
unfoldable pub is_call : List ℕ → ℕ → ℕ → Mark → Bool
is_call program q at unmarked = false
is_call program q at (marked w r p) = eqb (byte_at program at) 0x60 && eqb (target_of program at) q

unfoldable pub is_return : List ℕ → ℕ → ℕ → Mark → Bool
is_return program q at unmarked = false
is_return program q at (marked w r p) = eqb (byte_at program at) 0x6C && eqb p q

abbrev pub call_of : List ℕ → List Mark → ℕ → Mark
call_of program marks q = found (is_call program q) start marks

abbrev pub return_of : List ℕ → List Mark → ℕ → Mark
return_of program marks q = found (is_return program q) start marks

-- the rules of one address, but for where it goes on
unfoldable pub rule_tests : List ℕ → ℕ → ℕ → ℕ → List Bool
rule_tests program at w r =
    let byte = byte_at program at in
    leb w 255
    ∷ leb r 255
    ∷ leb (at + length_of byte) (start + length program)
    ∷ allowed byte
    ∷ leb (taken_from working byte) w
    ∷ leb (taken_from returning byte) r
    ∷ leb (depth_after working byte w) 255
    ∷ leb (depth_after returning byte r) 255
    ∷ []

abbrev pub is_marked : Mark → Bool
is_marked unmarked = false
is_marked (marked w r q) = true

abbrev pub has_work : ℕ → Mark → Bool
has_work w unmarked = false
has_work w (marked v r q) = eqb v w

-- C-19: the rules of its routine; every return has the working depth of the first one
unfoldable pub routine_tests : List ℕ → List Mark → ℕ → ℕ → ℕ → ℕ → List Bool
routine_tests program marks at w r q =
    let byte = byte_at program at in
    let least = floor (mark_at marks) q in
    (eqb q start || is_marked (call_of program marks q))
    ∷ (eqb byte 0x6C || leb (least + taken_from returning byte) r)
    ∷ (not (eqb byte 0x6C) || (eqb r least && not (eqb q start) && has_work w (return_of program marks q)))
    ∷ []

-- C-19: "The address after the call is marked .. if the routine has a marked return": that address and its mark, by the mark of a
-- return
abbrev pub comes_back : ℕ → ℕ → ℕ → Mark → List (ℕ × Mark)
comes_back after r q unmarked = []
comes_back after r q (marked v s p) = (after, marked v r q) ∷ []

unfoldable pub returned : List ℕ → List Mark → ℕ → ℕ → ℕ → List (ℕ × Mark)
returned program marks at r q =
    elim (eqb (byte_at program at) 0x60) [
      | true ↦ comes_back (after_of program at) r q (return_of program marks (target_of program at))
      | false ↦ []
    ]

-- all the addresses that follow from an address that is marked with w, r and q, and their marks
abbrev pub onward : List ℕ → List Mark → ℕ → ℕ → ℕ → ℕ → List (ℕ × Mark)
onward program marks at w r q = successors program at w r q ++ returned program marks at r q

-- the last: each of these has its mark, and so is in the program
abbrev pub goes_on : List Mark → List (ℕ × Mark) → Bool
goes_on marks [] = true
goes_on marks (next ∷ nexts) = same_mark (mark_at marks next.0) next.1 && goes_on marks nexts

unfoldable pub fits : List ℕ → List Mark → ℕ → Mark → Bool
fits program marks at unmarked = true
fits program marks at (marked w r q) =
    all (rule_tests program at w r) && all (routine_tests program marks at w r q) && goes_on marks (onward program marks at w r q)

unfoldable pub fits_from : List ℕ → List Mark → ℕ → List Mark → Bool
fits_from program marks at [] = true
fits_from program marks at (x ∷ xs) = fits program marks at x && fits_from program marks (at + 1) xs

unfoldable pub assigns : List ℕ → List Mark → Bool
assigns program marks =
    eqb (length marks) (length program)
    && same_mark (mark_at marks start) (marked 0 0 start)
    && fits_from program marks start marks

-- ---- "just the addresses reached from 0100": sweeps over the program, as many as it has bytes

-- a mark that is there stays
abbrev pub keep_mark : Mark → Mark → Mark
keep_mark unmarked x = x
keep_mark (marked w r q) x = marked w r q

unfoldable pub mark_one : List Mark → ℕ → Mark → List Mark
mark_one marks at x = cond (ltb at start) marks (set marks (at - start) (keep_mark (mark_at marks at) x))

unfoldable pub mark_each : List Mark → List (ℕ × Mark) → List Mark
mark_each marks [] = marks
mark_each marks (next ∷ nexts) = mark_each (mark_one marks next.0 next.1) nexts

-- what follows from an address with this mark; a call marks the address after it as soon as a return of its routine is marked
unfoldable pub follow : List ℕ → List Mark → ℕ → Mark → List Mark
follow program marks at unmarked = marks
follow program marks at (marked w r q) = mark_each marks (onward program marks at w r q)

-- the next n addresses, one after the other
unfoldable pub sweep : List ℕ → ℕ → ℕ → List Mark → List Mark
sweep program zero at marks = marks
sweep program (suc n) at marks = sweep program n (at + 1) (follow program marks at (mark_at marks at))

-- n times the whole program
unfoldable pub sweeps : List ℕ → ℕ → List Mark → List Mark
sweeps program zero marks = marks
sweeps program (suc n) marks = sweeps program n (sweep program (length program) start marks)

unfoldable pub reached : List ℕ → List Mark
reached program = sweeps program (length program) (set (replicate (length program) unmarked) 0 (marked 0 0 start))

-- what is reached is an assignment: exactly if there is one (`Exact`)
unfoldable pub admitted : List ℕ → Bool
admitted program = assigns program (reached program)

-- ---- the sheet

-- "A sheet has one .. record per program byte". C-19: "The sheet record becomes 8 bytes"
abbrev pub sheet_record : ℕ
sheet_record = 8

-- "mark (0 or 1), working depth, return depth, the program byte. Unmarked records have depths 0." C-19: "the old four, the routine
-- (two bytes), two zeros"
abbrev pub record_of : Mark → ℕ → List ℕ
record_of unmarked byte = 0 ∷ 0 ∷ 0 ∷ byte ∷ 0 ∷ 0 ∷ 0 ∷ 0 ∷ []
record_of (marked w r q) byte = 1 ∷ w ∷ r ∷ byte ∷ q / 256 ∷ q % 256 ∷ 0 ∷ 0 ∷ []

-- "The first record stands for address 0100."
unfoldable pub sheet_of : List Mark → List ℕ → List ℕ
sheet_of [] bytes = []
sheet_of (x ∷ xs) [] = []
sheet_of (x ∷ xs) (byte ∷ bytes) = record_of x byte ++ sheet_of xs bytes

-- the record of an address
abbrev pub record_at : List ℕ → ℕ → List ℕ
record_at sheet at = take sheet_record (drop (sheet_record * (at - start)) sheet)

-- byte k of it: 0 its mark, 1 its working depth, 2 its return depth, 3 its program byte, 4 and 5 its routine
abbrev pub record_byte : List ℕ → ℕ → ℕ → ℕ
record_byte sheet at k = get_or (record_at sheet at) k 0

-- "an address is marked where its mark there is 1"
abbrev pub Marked : List ℕ → ℕ → Type 0
Marked sheet at = (start ≤ at) × (record_byte sheet at 0 ≡ 1)

-- the mark that a record stands for
abbrev pub mark_of : List ℕ → Mark
mark_of entry =
    cond (eqb (get_or entry 0 0) 1) (marked (get_or entry 1 0) (get_or entry 2 0) (get_or entry 4 0 * 256 + get_or entry 5 0)) unmarked

-- the marks of a sheet, read from its records
unfoldable pub mark_in : List ℕ → ℕ → Mark
mark_in sheet at = cond (ltb at start) unmarked (mark_of (record_at sheet at))

-- "The sheet written is the smallest one"
pub record Smallest (program sheet : List ℕ) : Type 0 where
  -- "one .. record per program byte": mark 0 or 1, depths and routine 0 where it is not marked, and the program byte
  pub size : length sheet ≡ sheet_record * length program
  pub records : (at : ℕ) → Within program at → record_at sheet at ≡ record_of (mark_in sheet at) (byte_at program at)
  -- it is an assignment
  pub assigned : Assignment program (mark_in sheet)
  -- "which every assignment marks with the same depths", and the same routine
  pub least : (marks : ℕ → Mark) → Assignment program marks
      → (at w r q : ℕ) → mark_in sheet at ≡ marked w r q → marks at ≡ marked w r q
