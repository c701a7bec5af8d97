-- What the worklist of an admission keeps, while it visits the addresses that are reached from 0100. Inside the crates of admission only:
-- the contract of `admit` does not cite it.
-- Assumes nothing.
use Rattle.std.specs.Prelude.{◌≡◌, ◌⊎◌, Bool, true, false, cond, not, List, [], ◌∷◌, ℕ, suc, ◌+◌, ◌-◌, ◌*◌, ◌/◌, ◌%◌, ◌≤◌, ◌<◌, T, eqb, length, get_or, set, Result, Ok, Err}
use Rattle.model.specs.Machine.{start}
use Rattle.model.specs.Instruction.{working, returning, taken_from, length_of}
use Rattle.model.specs.Admission.{Mark, count_marked, admit_most, byte_at, Within, allowed, depth_after, after_of, target_of, Way, Called, floor, Rules, sheet_record, sheet_of, mark_in}
use Rattle.model.specs.Admission.Mark.{marked}
use Rattle.model.specs.Reasons.{Passes, Passable, Stands, GoesTo, Alike}
use Rattle.model.specs.declared.Place.{Place}
use Rattle.worklist.specs.declared.Rule.{Rule}
use Rattle.worklist.specs.declared.Routines.{Routines}
use Rattle.worklist.specs.declared.Worklist.{Worklist}

-- the depths and the routine in the record of place i
abbrev pub work_at : List ℕ → ℕ → ℕ
work_at sheet i = get_or sheet (sheet_record * i + 1) 0

abbrev pub ret_at : List ℕ → ℕ → ℕ
ret_at sheet i = get_or sheet (sheet_record * i + 2) 0

abbrev pub routine_at : List ℕ → ℕ → ℕ
routine_at sheet i = get_or sheet (sheet_record * i + 4) 0 * 256 + get_or sheet (sheet_record * i + 5) 0

-- the sheet after the bytes of a mark in the record of place i
abbrev pub with_mark : List ℕ → ℕ → ℕ → ℕ → ℕ → List ℕ
with_mark sheet i w r q =
    set (set (set (set (set sheet (sheet_record * i) 1) (sheet_record * i + 1) w) (sheet_record * i + 2) r)
    (sheet_record * i + 4) (q / 256)) (sheet_record * i + 5) (q % 256)

-- it has these, or not
abbrev pub Has : List ℕ → ℕ → ℕ → ℕ → ℕ → Type 0
Has sheet i w r q = (work_at sheet i ≡ w) × (ret_at sheet i ≡ r) × (routine_at sheet i ≡ q)

abbrev pub Agrees : List ℕ → ℕ → ℕ → ℕ → ℕ → Bool → Type 0
Agrees sheet i w r q true = Has sheet i w r q
Agrees sheet i w r q false = Has sheet i w r q → ⊥

-- a passable way leads to the address with these depths and this routine
abbrev pub Led : List ℕ → ℕ → ℕ → ℕ → ℕ → Type 0
Led program at w r q = (way : Way program at w r q) × Passable way

-- the sheet marks the address
abbrev pub Marks : List ℕ → ℕ → Type 0
Marks sheet at = (w : ℕ) × (r : ℕ) × (q : ℕ) × (mark_in sheet at ≡ marked w r q)

-- the instruction at the address passes, with the depths that the sheet has there
abbrev pub Passing : List ℕ → List ℕ → ℕ → Type 0
Passing program sheet at = (w r q : ℕ) → mark_in sheet at ≡ marked w r q → Passes program at w r

-- the rules hold at the address, with the marks of the sheet
abbrev pub Obeyed : List ℕ → List ℕ → ℕ → Type 0
Obeyed program sheet at = (w r q : ℕ) → mark_in sheet at ≡ marked w r q → Rules program (mark_in sheet) at w r q

-- the routine is 0100 or the target of a marked call, and its own address is marked in it: the floor stands in the sheet, and the
-- return depth is not below it
pub record Rooted (program sheet : List ℕ) (q ret : ℕ) : Type 0 where
  pub led : (q ≡ start) ⊎ Called program (mark_in sheet) q
  pub work : ℕ
  pub floor : ℕ
  pub entered : mark_in sheet q ≡ marked work floor q
  pub low : floor ≤ ret

-- an address that is to be marked with this return depth and in this routine: the routine is called there, or has its own address
-- marked
abbrev pub Roots : List ℕ → List ℕ → ℕ → ℕ → ℕ → Type 0
Roots program sheet at ret q = (Called program (mark_in sheet) q × (at ≡ q)) ⊎ Rooted program sheet q ret

-- The queue holds the marked addresses, counted from 0100.
pub record Listed (program sheet queue : List ℕ) : Type 0 where
  pub most : length program ≤ admit_most
  -- the sheet is that of some marks, as many as the queue has addresses
  pub marks : List Mark
  pub size : length marks ≡ length program
  pub written : sheet ≡ sheet_of marks program
  pub counted : length queue ≡ count_marked marks
  -- 0100 is marked with 0 and 0, and only what is reached on a passable way is marked
  pub first : mark_in sheet start ≡ marked 0 0 start
  pub ways : (at w r q : ℕ) → mark_in sheet at ≡ marked w r q → Led program at w r q
  pub rooted : (at w r q : ℕ) → mark_in sheet at ≡ marked w r q → Rooted program sheet q r
  -- what is in the queue is marked, and what is marked is in the queue
  pub listed : (k : ℕ) → k < length queue → Marks sheet (start + get_or queue k 0)
  pub covers : (at w r q : ℕ) → mark_in sheet at ≡ marked w r q → (k : ℕ) × (k < length queue) × (at ≡ start + get_or queue k 0)

-- The rules of depths but the last hold at place i, with the depths of its record: the depths after it.
pub record Tested (program sheet : List ℕ) (i work ret : ℕ) : Type 0 where
  pub work_low : work_at sheet i ≤ 255
  pub ret_low : ret_at sheet i ≤ 255
  pub fine : not (allowed (get_or program i 0)) ≡ false
  pub whole : i + length_of (get_or program i 0) ≤ length program
  pub holds_work : taken_from working (get_or program i 0) ≤ work_at sheet i
  pub works : work ≡ depth_after working (get_or program i 0) (work_at sheet i)
  pub work_top : work ≤ 255
  pub holds_ret : taken_from returning (get_or program i 0) ≤ ret_at sheet i
  pub rets : ret ≡ depth_after returning (get_or program i 0) (ret_at sheet i)
  pub ret_top : ret ≤ 255

-- what the instruction at place i takes of the return stack lies above the floor of its routine
abbrev pub Above : List ℕ → List ℕ → ℕ → Type 0
Above program sheet i = floor (mark_in sheet) (routine_at sheet i) + taken_from returning (get_or program i 0) ≤ ret_at sheet i

-- Afterwards the sheet has the same marks and perhaps more, and the queue the same addresses and perhaps more.
pub record Extended (program sheet queue sheet_after queue_after : List ℕ) : Type 0 where
  pub list : Listed program sheet_after queue_after
  pub grown : (at w r q : ℕ) → mark_in sheet at ≡ marked w r q → mark_in sheet_after at ≡ marked w r q
  pub kept : (k : ℕ) → k < length queue → get_or queue_after k 0 ≡ get_or queue k 0
  pub longer : length queue ≤ length queue_after

-- The address is outside the program or has another mark, and nothing was written; or it has this one.
abbrev pub Marking : (program sheet queue sheet_after queue_after : List ℕ) → (at w r q : ℕ) → Bool → Type 0
Marking program sheet queue sheet_after queue_after at w r q false =
    (sheet_after ≡ sheet) × (Within program at → Marks sheet at × (Has sheet (at - start) w r q → ⊥))
Marking program sheet queue sheet_after queue_after at w r q true =
    Extended program sheet queue sheet_after queue_after × (mark_in sheet_after at ≡ marked w r q)

-- ---- a rule fails

-- place i, with the depths and the routine of its record
abbrev pub place_at : List ℕ → ℕ → Place
place_at sheet i = record { at = start + i; work = work_at sheet i; ret = ret_at sheet i; routine = routine_at sheet i }

-- where the instruction at place i goes on, with the depths after it: after it; at its target, which is the routine if it is a call
abbrev pub after_place : (program sheet : List ℕ) → ℕ → Place
after_place program sheet i =
    record {
      at = start + (i + length_of (get_or program i 0));
      work = depth_after working (get_or program i 0) (work_at sheet i);
      ret = depth_after returning (get_or program i 0) (ret_at sheet i);
      routine = routine_at sheet i;
    }

abbrev pub target_place : (program sheet : List ℕ) → ℕ → Place
target_place program sheet i =
    record {
      at = target_of program (start + i);
      work = depth_after working (get_or program i 0) (work_at sheet i);
      ret = depth_after returning (get_or program i 0) (ret_at sheet i);
      routine = cond (eqb (get_or program i 0) 0x60) (target_of program (start + i)) (routine_at sheet i);
    }

-- where the return at place j goes on, after the call at place i
abbrev pub back_place : (sheet : List ℕ) → ℕ → ℕ → Place
back_place sheet i j = record { at = start + (i + 3); work = work_at sheet j; ret = ret_at sheet i; routine = routine_at sheet i }

-- it goes on there, and there is outside the program or has another mark
pub record Lost (program sheet : List ℕ) (here next : Place) : Type 0 where
  pub goes : GoesTo program here next
  pub other : Within program next.at
      → Stands program (place_at sheet (next.at - start)) × (Alike next (place_at sheet (next.at - start)) → ⊥)

-- the routine of place i, by its own address
pub record Rooting (program sheet : List ℕ) (i : ℕ) : Type 0 where
  pub low : start ≤ routine_at sheet i
  pub inside : routine_at sheet i - start < length program
  pub stands : Stands program (place_at sheet (routine_at sheet i - start))
  pub itself : routine_at sheet (routine_at sheet i - start) ≡ routine_at sheet i

-- the rule fails at place i; j is the place of a return of which it speaks too
abbrev pub Fails : (program sheet : List ℕ) → Rule → ℕ → ℕ → Type 0
Fails program sheet Rule.Forbidden i j = T (not (allowed (get_or program i 0)))
Fails program sheet Rule.Cut i j = length program < i + length_of (get_or program i 0)
Fails program sheet Rule.FewWorking i j = work_at sheet i < taken_from working (get_or program i 0)
Fails program sheet Rule.ManyWorking i j =
    (taken_from working (get_or program i 0) ≤ work_at sheet i) × (255 < depth_after working (get_or program i 0) (work_at sheet i))
Fails program sheet Rule.FewReturn i j = ret_at sheet i < taken_from returning (get_or program i 0)
Fails program sheet Rule.ManyReturn i j =
    (taken_from returning (get_or program i 0) ≤ ret_at sheet i) × (255 < depth_after returning (get_or program i 0) (ret_at sheet i))
Fails program sheet Rule.BelowFloor i j =
    (get_or program i 0 ≡ 0x6C → ⊥)
    × Rooting program sheet i
    × (ret_at sheet i < ret_at sheet (routine_at sheet i - start) + taken_from returning (get_or program i 0))
Fails program sheet Rule.After i j =
    Passes program (start + i) (work_at sheet i) (ret_at sheet i)
    × Lost program sheet (place_at sheet i) (after_place program sheet i)
Fails program sheet Rule.Target i j =
    Passes program (start + i) (work_at sheet i) (ret_at sheet i)
    × (length_of (get_or program i 0) ≡ 3)
    × Lost program sheet (place_at sheet i) (target_place program sheet i)
Fails program sheet Rule.Back i j =
    (i + 3 ≤ length program) × Lost program sheet (place_at sheet i) (back_place sheet i j)
Fails program sheet Rule.ReturnOffFloor i j =
    (get_or program i 0 ≡ 0x6C)
    × Rooting program sheet i
    × (ret_at sheet i ≡ ret_at sheet (routine_at sheet i - start) → ⊥)
Fails program sheet Rule.ReturnsDiffer i j =
    (get_or program i 0 ≡ 0x6C)
    × (get_or program j 0 ≡ 0x6C)
    × Stands program (place_at sheet j)
    × (routine_at sheet i ≡ routine_at sheet j)
    × (work_at sheet i ≡ work_at sheet j → ⊥)

-- it fails at a place of the program that is reached
pub record Told (program sheet : List ℕ) (rule : Rule) (i j : ℕ) : Type 0 where
  pub most : length program ≤ admit_most
  pub size : length sheet ≡ sheet_record * length program
  pub here : i < length program
  pub there : j < length program
  pub stands : Stands program (place_at sheet i)
  pub fails : Fails program sheet rule i j

-- the rule, the place where it fails, and the place of a return of which it speaks too
pub record Failing : Type 0 where
  pub rule : Rule
  pub at : ℕ
  pub other : ℕ

abbrev pub ToldIn : (program sheet : List ℕ) → Failing → Type 0
ToldIn program sheet f = Told program sheet f.rule f.at f.other

-- ---- the same as a number

-- the rules by their numbers, but for the last one
abbrev pub first_rules : List Rule
first_rules =
    Rule.Forbidden ∷ Rule.Cut ∷ Rule.FewWorking ∷ Rule.ManyWorking ∷ Rule.FewReturn ∷ Rule.ManyReturn ∷ Rule.BelowFloor ∷ Rule.After
    ∷ Rule.Target ∷ Rule.Back ∷ Rule.ReturnOffFloor ∷ []

abbrev pub rule_of : ℕ → Rule
rule_of n = get_or first_rules n Rule.ReturnsDiffer

-- its rule, the place where it fails, and the other place
unfoldable pub rule_in : ℕ → Rule
rule_in n = rule_of (n % 16)

unfoldable pub place_in : ℕ → ℕ
place_in n = n / 16 % admit_most

unfoldable pub other_in : ℕ → ℕ
other_in n = n / 16 / admit_most

abbrev pub failing_of : ℕ → Failing
failing_of n = record { rule = rule_in n; at = place_in n; other = other_in n }

-- A rule fails; or the worklist goes on, and P holds.
abbrev pub Outcome : (program sheet queue sheet_after queue_after : List ℕ) → Type 0 → Result (Unit {0}) Failing → Type 0
Outcome program sheet queue sheet_after queue_after P (Err fault) = ToldIn program sheet_after fault
Outcome program sheet queue sheet_after queue_after P (Ok done) = Extended program sheet queue sheet_after queue_after × P

-- ---- calls and returns, among the first `head` places of the queue, which were visited

-- the address at place k of the queue
abbrev pub placed : List ℕ → ℕ → ℕ
placed queue k = start + get_or queue k 0

-- it has a call of q
abbrev pub Calls : (program queue : List ℕ) → ℕ → ℕ → Type 0
Calls program queue q k = (byte_at program (placed queue k) ≡ 0x60) × (target_of program (placed queue k) ≡ q)

-- the last call of q below place n is at place j - 1; there is none if j is 0
pub record Last (program queue : List ℕ) (q n j : ℕ) : Type 0 where
  pub low : j ≤ n
  pub this : (k : ℕ) → j ≡ suc k → Calls program queue q k
  pub none : (k : ℕ) → j ≤ k → k < n → Calls program queue q k → ⊥

-- the call at an address goes on after itself with the working depth v
abbrev pub Back : (program sheet : List ℕ) → ℕ → ℕ → Type 0
Back program sheet at v = (w r q : ℕ) → mark_in sheet at ≡ marked w r q → mark_in sheet (after_of program at) ≡ marked v r q

-- the calls of q below place n of the queue go on so
abbrev pub AllBack : (program sheet queue : List ℕ) → ℕ → ℕ → ℕ → Type 0
AllBack program sheet queue q n v = (k : ℕ) → k < n → Calls program queue q k → Back program sheet (placed queue k) v

-- the calls of q, the last of them at place n - 1: `before` leads from each to the one before it
pub record Chain (program sheet queue : List ℕ) (before : List ℕ) (q n : ℕ) : Type 0 where
  pub low : n ≤ length queue
  pub passed : (k : ℕ) → k < n → Passing program sheet (placed queue k)
  pub this : (k : ℕ) → n ≡ suc k → Calls program queue q k
  pub befores : (k : ℕ) → k < n → Calls program queue q k → Last program queue q k (get_or before k 0)

-- place j has a return of the routine q that was visited, with the working depth v
pub record Left (program sheet : List ℕ) (q j v : ℕ) : Type 0 where
  pub ret : ℕ
  pub here : mark_in sheet (start + j) ≡ marked v ret q
  pub returns : byte_at program (start + j) ≡ 0x6C
  pub passes : Passes program (start + j) v ret

-- what `routines` has for a routine with a visited return, from the place of the first one; while none was visited it has at most 4,096
abbrev pub returned_at : ℕ → ℕ
returned_at j = admit_most + 1 + j

-- a visited return of q, with the working depth v, stands there
abbrev pub HasReturn : (program sheet routines : List ℕ) → ℕ → ℕ → Type 0
HasReturn program sheet routines q v = (j : ℕ) × (get_or routines (q - start) 0 ≡ returned_at j) × Left program sheet q j v

-- `routines`: for each routine with a visited return the place of the first one, so written, and else its last call; `before`: for each
-- place of the queue with a call that waits for a return, the last call of the same routine before it
pub record Waiting (program sheet queue : List ℕ) (head : ℕ) (routines before : List ℕ) : Type 0 where
  pub routines_size : length routines ≡ admit_most
  pub before_size : length before ≡ admit_most
  pub passed : (k : ℕ) → k < head → Passing program sheet (placed queue k)
  pub returned : (k v r q : ℕ) → k < head → mark_in sheet (placed queue k) ≡ marked v r q → byte_at program (placed queue k) ≡ 0x6C
      → HasReturn program sheet routines q v
  pub leaves : (q j : ℕ) → start ≤ q → get_or routines (q - start) 0 ≡ returned_at j → (v : ℕ) × Left program sheet q j v
  pub back : (k q v : ℕ) → k < head → start ≤ q → Calls program queue q k → HasReturn program sheet routines q v
      → Back program sheet (placed queue k) v
  pub lasts : (q : ℕ) → start ≤ q → get_or routines (q - start) 0 ≤ admit_most → Last program queue q head (get_or routines (q - start) 0)
  pub befores : (k q : ℕ) → k < head → start ≤ q → Calls program queue q k → get_or routines (q - start) 0 ≤ admit_most
      → Last program queue q k (get_or before k 0)

-- Place `head` of the queue comes next.
pub record Visit (program sheet queue : List ℕ) (head : ℕ) (routines before : List ℕ) : Type 0 where
  pub list : Listed program sheet queue
  pub waiting : Waiting program sheet queue head routines before
  pub low : head < length queue

-- The address there obeys the rules, and was visited.
abbrev pub Visited : (program sheet queue : List ℕ) → ℕ → ℕ → (routines before : List ℕ) → Type 0
Visited program sheet queue head at routines before =
    Obeyed program sheet at × Waiting program sheet queue (head + 1) routines before

-- ---- the same of a worklist, which has the program, the sheet and the queue

-- it has the same program afterwards, and the same sheet
abbrev pub Same : Worklist → Worklist → Type 0
Same old new = (new.sheet.ghost_name ≡ old.sheet.ghost_name) × (new.program.now ≡ old.program.now)

abbrev pub IsListed : Worklist → Type 0
IsListed list = Listed list.program.now list.sheet.now list.queue.items

abbrev pub Marked : Worklist → Worklist → (at w r q : ℕ) → Bool → Type 0
Marked old new = Marking old.program.now old.sheet.now old.queue.items new.sheet.now new.queue.items

abbrev pub Ends : Worklist → Worklist → Type 0 → Result (Unit {0}) Failing → Type 0
Ends old new = Outcome old.program.now old.sheet.now old.queue.items new.sheet.now new.queue.items

abbrev pub Visiting : Worklist → ℕ → Routines → Type 0
Visiting list head routines = Visit list.program.now list.sheet.now list.queue.items head routines.known routines.before

-- what comes of place `head` of the queue
abbrev pub VisitEnds : Worklist → Worklist → ℕ → Routines → Result (Unit {0}) Failing → Type 0
VisitEnds old new head routines =
    Ends old new (Visited old.program.now new.sheet.now new.queue.items head (placed old.queue.items head) routines.known routines.before)
