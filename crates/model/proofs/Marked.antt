-- A step from a marked address of an assignment: it goes on to a marked address, with the depths of its mark, wraps no stack,
-- leaves memory from 0100 on, and, if it is a 6C, lands just after its call. Assumes nothing.
use mathlib.Core.Path.{◌≡◌, refl, sym, ap, ◌∙◌}
use mathlib.Core.Bool.{Bool, true, false, cond, ◌&&◌}
use mathlib.Core.List.{List, [], ◌∷◌}
use Prim.Native.Nat.{ℕ, ◌+◌, ◌-◌, ◌*◌, ◌%◌, ◌≤◌, ◌<◌}
use native.Mathlib.Nat.{mod-eq_of_lt}
use native.Mathlib.Omega.{arith}
use lib.Dec.{T, eqb, ltb}
use lib.ListN.{length, get_or, take, drop}
use lib.Seq.{get_or-take, get_or-drop}
use borrow.Author.Tests.{eqb-true, eqb-false, ltb-false}
use Rattle.model.specs.Bytes.{Bytes, Every, one_of, number, read_ring}
use Rattle.model.specs.Machine.{memory_size, start, State, Sized, InRange, pushed, popped, lowered, operands}
use Rattle.model.specs.Instruction.{keep_mode, shape_of, row_of, working, returning, taken_from, pushed_on, length_of}
use Rattle.model.specs.Step.{effect, effect_on, words, main_after, other_after, applied, operated, execute, fetched, step, breaks, stack_wraps, wraps}
use Rattle.model.specs.Admission.{admit_most, Mark, byte_at, Within, allowed, depth_after, mark_after, after_of, target_of, successors, GoesOn, Leaves, floor, Rules, Assignment}
use Rattle.model.specs.Admission.Mark.{marked}
use Rattle.model.specs.Demand3.{Intact, open_after, Lands}
use Rattle.model.proofs.Stacks.{lowered_is}
use Rattle.model.proofs.Steps.{step_sized, step_range, moved, execute_moved}
use Rattle.model.proofs.Changes.{execute-kept, length_is, stz_above}
use Rattle.model.proofs.Computing.{decoding}
use Rattle.model.proofs.EveryByte.{every_byte}
use Rattle.model.proofs.Routines.{Open, execute_below, call_pushes, return-takes, return-leaves, call-floor, open_stays}
use Rattle.model.proofs.Wraps.{pop_no_wrap, push-no_wrap}

-- ---- what the allowed instructions may do

-- the tests of a byte, one of which says that it is allowed
both : (a b : Bool) {c : Bool} → T a → (a && b) ≡ c → b ≡ c
both true b t e = e
both false b t e = absurd t

-- only STZ stores in memory
allowed-stores : (byte : ℕ) → byte < 256 → T (allowed byte) → ltb 0 (shape_of byte).stores ≡ eqb (byte % 32) 0x11
unfolding decoding allowed
allowed-stores byte h t =
    both (allowed byte) _ t (every_byte (λ b. allowed b && ltb 0 (shape_of b).stores) (λ b. eqb (b % 32) 0x11) tt byte h)

-- only JCI, JMI, JSI and 6C jump
allowed-jumps : (byte : ℕ) → byte < 256 → T (allowed byte) → (shape_of byte).jumps ≡ one_of byte (0x20 ∷ 0x40 ∷ 0x60 ∷ 0x6C ∷ [])
unfolding decoding allowed
allowed-jumps byte h t =
    both (allowed byte) _ t (every_byte (λ b. allowed b && (shape_of b).jumps) (λ b. one_of b (0x20 ∷ 0x40 ∷ 0x60 ∷ 0x6C ∷ [])) tt byte h)

-- so memory from 0100 on stays
allowed-above : (byte : ℕ) (s : State) → byte < 256 → T (allowed byte) → drop start (execute byte s).memory ≡ drop start s.memory
allowed-above byte s h t = by (eqb (byte % 32) 0x11) refl
  where
    by : (b : Bool) → eqb (byte % 32) 0x11 ≡ b → drop start (execute byte s).memory ≡ drop start s.memory
    by true e = stz_above byte s (eqb-true _ _ e)
    by false e =
        let k = ltb-false 0 (shape_of byte).stores (allowed-stores byte h t ∙ e) in
        ap (drop start) ((execute-kept byte s).memory (omega arith))

-- ---- depths and pointers

-- n bytes are taken, but under keep, and m pushed: where the stack holds them, and has room, nothing goes round
room : (keep : Bool) (n m p : ℕ) → n ≤ p → p - cond keep 0 n + m ≤ 255
    → (p + 255 * cond keep 0 n + m) % 256 ≡ p - cond keep 0 n + m
room true n m p h l = omega arith
room false n m p h l = omega arith

lowered-no_wrap : (keep : Bool) (n p : ℕ) → n ≤ p → p ≤ 255 → lowered keep n p ≡ p - cond keep 0 n
lowered-no_wrap keep n p h l = lowered_is keep n p (omega arith) ∙ omega (arith, room keep n 0 p h (omega arith))

-- the pointer after an instruction is the depth after it
moved_no_wrap : (k byte p : ℕ) → taken_from k byte ≤ p → depth_after k byte p ≤ 255 → moved k (keep_mode byte) (row_of byte) p ≡ depth_after k byte p
moved_no_wrap k byte p h l = omega (arith, room (keep_mode byte) (taken_from k byte) (pushed_on k byte) p h (omega arith))

-- and it wraps no stack
stack-no_wrap : (k byte p : ℕ) → p ≤ 255 → taken_from k byte ≤ p → depth_after k byte p ≤ 255 → stack_wraps k byte p ≡ false
unfolding stack_wraps
stack-no_wrap k byte p low h l =
    rw (pop_no_wrap (taken_from k byte) p (omega arith) h, lowered-no_wrap (keep_mode byte) (taken_from k byte) p h low)
    (push-no_wrap (pushed_on k byte) _ (omega arith))

-- ---- one step

-- BRK leaves both pointers
pub brk_stays : (s : State) → breaks s ≡ true → ((step s).work.pointer ≡ s.work.pointer) × ((step s).ret.pointer ≡ s.ret.pointer)
unfolding step execute operated applied main_after other_after words pushed lowered popped decoding
brk_stays s e = let b = eqb-true (fetched s) 0x00 e in (ap (λ n. (execute n s).work.pointer) b, ap (λ n. (execute n s).ret.pointer) b)

-- The program stands in memory, the counter is at an address that is marked with the two pointers, the addresses after the open
-- calls stand on the return stack, the buffers have their lengths, and every number its width
pub record At (program : List ℕ) (marks : ℕ → Mark) (opened : List ℕ) (s : State) : Type 0 where
  pub intact : Intact program s
  pub routine : ℕ
  pub here : marks s.pc ≡ marked s.work.pointer s.ret.pointer routine
  pub calls : Open program marks s.ret.bytes routine opened
  pub sized : Sized s
  pub range : InRange s

-- a byte of memory is the program's
code_at : (program : List ℕ) (s : State) (at : ℕ) → Intact program s → Within program at → get_or s.memory at 0 ≡ byte_at program at
unfolding byte_at
code_at program s at e h =
    let i = at - start in
    let j : start + i ≡ at = omega (arith, h.0) in
    ap (λ k. get_or s.memory k 0) (sym j)
    ∙ sym (get_or-drop start s.memory i 0)
    ∙ sym (get_or-take (length program) (drop start s.memory) i 0 (omega (arith, h.0, h.1)))
    ∙ ap (λ l. get_or l i 0) e

module _ (program : List ℕ) (marks : ℕ → Mark) (assigned : Assignment program marks) (most : length program ≤ admit_most) (bytes : Bytes program) (opened : List ℕ) (s : State) (at : At program marks opened s) where
  abbrev byte : ℕ
  byte = byte_at program s.pc

  abbrev q : ℕ
  q = at.routine

  rule : Rules program marks s.pc s.work.pointer s.ret.pointer q
  rule = assigned.rules s.pc s.work.pointer s.ret.pointer q at.here

  byte_low : byte < 256
  unfolding byte_at
  byte_low = bytes (s.pc - start)

  -- every byte of the instruction is in the program
  within : (k : ℕ) → k < length_of byte → Within program (s.pc + k)
  within k h = (omega (arith, rule.placed), omega (arith, rule.inside, h))

  fetched_is : fetched s ≡ byte
  fetched_is =
      let l : 0 < length_of byte = omega (arith, length_is byte) in
      let e : s.pc + 0 ≡ s.pc = omega arith in
      code_at program s s.pc at.intact (rw e at (within 0 l))

  -- "No step wraps a stack."
  pub no_wrap_lem : wraps s ≡ false
  unfolding wraps
  no_wrap_lem =
      rw (fetched_is, stack-no_wrap working byte s.work.pointer rule.work_low (omega (arith, rule.work)) rule.work_top)
      (stack-no_wrap returning byte s.ret.pointer rule.ret_low (omega (arith, rule.ret)) rule.ret_top)

  pub above : drop start (step s).memory ≡ drop start s.memory
  unfolding step
  above = rw fetched_is (allowed-above byte s byte_low rule.fine)

  abbrev mark : ℕ → Mark
  mark p = mark_after byte s.work.pointer s.ret.pointer p

  -- the mark after it is made of the pointers after it
  pointers : (p : ℕ) → marked (execute byte s).work.pointer (execute byte s).ret.pointer p ≡ mark p
  pointers p =
      let m = execute_moved byte s at.range in
      let w = m.work ∙ moved_no_wrap working byte s.work.pointer (omega (arith, rule.work)) rule.work_top in
      let r = m.ret ∙ moved_no_wrap returning byte s.ret.pointer (omega (arith, rule.ret)) rule.ret_top in
      rw (w, r)

  -- ---- where it goes

  -- after the instruction, and the target of its offset
  abbrev after : ℕ
  after = after_of program s.pc

  abbrev follows : ℕ
  follows = number (byte_at program (s.pc + 1) ∷ byte_at program (s.pc + 2) ∷ [])

  abbrev target : ℕ
  target = target_of program s.pc

  abbrev Goes : List (ℕ × Mark) → Type 0
  Goes nexts = Every (GoesOn program marks) nexts

  goes : (brk jci jmi jsi return : Bool) → eqb byte 0x00 ≡ brk → eqb byte 0x20 ≡ jci → eqb byte 0x40 ≡ jmi → eqb byte 0x60 ≡ jsi
      → eqb byte 0x6C ≡ return
      → Goes (cond brk [] (cond jci ((after, mark q) ∷ (target, mark q) ∷ []) (cond jmi ((target, mark q) ∷ []) (cond jsi ((target, mark target) ∷ []) (cond return [] ((after, mark q) ∷ []))))))
  unfolding successors
  goes brk jci jmi jsi return e f g h i = rw (successors, e, f, g, h, i) at rule.on

  -- the offset in memory is the program's
  offset_is : length_of byte ≡ 3 → number (read_ring memory_size s.memory (s.pc + 1) 2) ≡ follows
  unfolding read_ring
  offset_is l =
      let a = within 1 (omega arith) in
      let b = within 2 (omega arith) in
      let i : (s.pc + 1) % memory_size ≡ s.pc + 1 = mod-eq_of_lt (omega (arith, a.1, most)) in
      let j : (s.pc + 1 + 1) % memory_size ≡ s.pc + 2 = omega (arith, b.1, most) in
      rw (i, j, code_at program s (s.pc + 1) at.intact a, code_at program s (s.pc + 2) at.intact b)

  next_is : length_of byte ≡ 3 → (s.pc + 3) % 65536 ≡ after
  unfolding after_of
  next_is l = omega (arith, (within 2 (omega arith)).1, most, l)

  -- "for JMI its target"
  jmi : byte ≡ 0x40 → marks (execute 0x40 s).pc ≡ mark q
  unfolding execute operated applied effect_on effect target_of decoding
  jmi e =
      let l : length_of byte ≡ 3 = rw e in
      rw (offset_is l, next_is l) (goes false false true false false (rw e) (rw e) (rw e) (rw e) (rw e)).0.1

  -- "for JCI both"
  jci : byte ≡ 0x20 → marks (execute 0x20 s).pc ≡ mark q
  unfolding execute operated applied effect_on effect target_of decoding
  jci e = rw (offset_is l, next_is l) (by (eqb (get_or (operands (1 ∷ []) s.work) 0 0) 0))
    where
      l : length_of byte ≡ 3
      l = rw e

      by : (zero : Bool) → marks (cond zero after target) ≡ mark q
      by true = (goes false true false false false (rw e) (rw e) (rw e) (rw e) (rw e)).0.1
      by false = (goes false true false false false (rw e) (rw e) (rw e) (rw e) (rw e)).1.0.1

  -- "after it"
  plain : eqb byte 0x00 ≡ false → eqb byte 0x20 ≡ false → eqb byte 0x40 ≡ false → eqb byte 0x60 ≡ false → eqb byte 0x6C ≡ false
      → marks (execute byte s).pc ≡ mark q
  unfolding after_of
  plain e f g h i =
      let j : (shape_of byte).jumps ≡ false = allowed-jumps byte byte_low rule.fine ∙ rw (f, g, h, i) in
      let n : (s.pc + (1 + (shape_of byte).inline)) % 65536 ≡ after = omega (arith, length_is byte, rule.inside, most) in
      rw ((execute-kept byte s).pc j, n) (goes false false false false false e f g h i).0.1

  -- (02) JSI "enters a routine"
  jsi : byte ≡ 0x60 → marks (execute 0x60 s).pc ≡ mark target
  unfolding execute operated applied effect_on effect target_of decoding
  jsi e =
      let l : length_of byte ≡ 3 = rw e in
      rw (offset_is l, next_is l) (goes false false false true false (rw e) (rw e) (rw e) (rw e) (rw e)).0.1

  -- ---- the calls that are open

  -- what is not a 6C leaves the bytes below the floor
  below : (byte ≡ 0x6C → ⊥) → (i : ℕ) → i < floor marks q → get_or (execute byte s).ret.bytes i 0 ≡ get_or s.ret.bytes i 0
  below n i l = execute_below byte s i at.range (omega (arith, rule.above n)) rule.ret_top

  same_calls : (byte ≡ 0x6C → ⊥) → Open program marks (execute byte s).ret.bytes q opened
  same_calls n = open_stays program marks assigned s.ret.bytes (execute byte s).ret.bytes q opened (below n) at.calls

  -- what holds after the instruction, with these calls open
  record Went (t : State) (after : List ℕ) : Type 0 where
    routine : ℕ
    here : marks t.pc ≡ marked t.work.pointer t.ret.pointer routine
    calls : Open program marks t.ret.bytes routine after

  -- an instruction that is neither a call nor a return
  went_on : (byte ≡ 0x6C → ⊥) → marks (execute byte s).pc ≡ mark q → Went (execute byte s) opened
  went_on n e = record { routine = q; here = e ∙ sym (pointers q); calls = same_calls n }

  -- a call: the address after it stands on the return stack, just below the floor of the routine
  went_in : byte ≡ 0x60 → Went (execute byte s) ((s.pc + 3) % 65536 ∷ opened)
  unfolding decoding
  went_in e =
      let p = s.ret.pointer in
      let l : length_of byte ≡ 3 = rw e in
      let t : p - 0 + 2 ≤ 255 = rw e at rule.ret_top in
      let pushes = call_pushes s at.sized.ret (omega arith) in
      record {
        routine = target;
        here = ap (λ n. marks (execute n s).pc) e ∙ jsi e ∙ sym (pointers target);
        calls = (
          record { at = s.pc; work = s.work.pointer; ret = p; routine = q; here = at.here; calls = e; enters = refl },
          next_is l,
          ap (λ n. get_or (execute n s).ret.bytes p 0 * 256 + get_or (execute n s).ret.bytes (p + 1) 0) e ∙ pushes,
          same_calls (λ f. let z : ◌≡◌ {A = ℕ} 0x60 0x6C = sym e ∙ f in omega arith),
        );
      }

  -- a return: the last of the calls that are open is over
  abbrev Back : List ℕ → Type 0
  Back [] = ⊥
  Back (a ∷ rest) = ((execute byte s).pc ≡ a) × Went (execute byte s) rest

  went_back : byte ≡ 0x6C → (calls : List ℕ) → Open program marks s.ret.bytes q calls → Back calls
  unfolding decoding
  went_back e [] o = rule.inner e o
  went_back e (a ∷ rest) o =
      let c = o.0 in
      let w = s.work.pointer in
      let r = s.ret.pointer in
      let f : r ≡ c.ret + 2 = rule.low e ∙ call-floor program marks assigned q c in
      let pc : (execute byte s).pc ≡ a = ap (λ n. (execute n s).pc) e ∙ return-takes s c.ret f (omega (arith, rule.ret_low)) ∙ o.2 in
      let mine : Leaves program marks q w = record { at = s.pc; ret = r; here = at.here; returns = e } in
      let there = assigned.back q w c mine in
      let w' : depth_after working byte w ≡ w = rw e (omega arith) in
      let r' : depth_after returning byte r ≡ c.ret = rw e (omega arith) in
      let p = c.routine in
      let depths : marked w c.ret p ≡ mark p = rw (w', r') in
      let same : (execute byte s).ret.bytes ≡ s.ret.bytes = ap (λ n. (execute n s).ret.bytes) e ∙ return-leaves s in
      (pc, record { routine = p; here = ap marks (pc ∙ o.1) ∙ there.1 ∙ depths ∙ sym (pointers p); calls = rw same o.3 })

  -- (02) "each 6C lands just after its call"
  pub lands : Lands opened s
  unfolding step
  lands = by opened at.calls
    where
      by : (calls : List ℕ) → Open program marks s.ret.bytes q calls → Lands calls s
      by [] o = λ f. went_back (sym fetched_is ∙ f) [] o
      by (a ∷ rest) o = λ f. ap (λ n. (execute n s).pc) fetched_is ∙ (went_back (sym fetched_is ∙ f) (a ∷ rest) o).0

  went : eqb byte 0x00 ≡ false → Went (execute byte s) (cond (eqb byte 0x60) ((s.pc + 3) % 65536 ∷ opened) (cond (eqb byte 0x6C) (drop 1 opened) opened))
  went e = by (eqb byte 0x20) (eqb byte 0x40) (eqb byte 0x60) (eqb byte 0x6C) refl refl refl refl
    where
      back : (calls : List ℕ) → Open program marks s.ret.bytes q calls → byte ≡ 0x6C → Went (execute byte s) (drop 1 calls)
      back [] o i = absurd (went_back i [] o)
      back (a ∷ rest) o i = (went_back i (a ∷ rest) o).1

      by : (is_jci is_jmi is_jsi is_return : Bool) → eqb byte 0x20 ≡ is_jci → eqb byte 0x40 ≡ is_jmi → eqb byte 0x60 ≡ is_jsi → eqb byte 0x6C ≡ is_return
          → Went (execute byte s) (cond is_jsi ((s.pc + 3) % 65536 ∷ opened) (cond is_return (drop 1 opened) opened))
      by is_jci is_jmi true is_return f g h i = went_in (eqb-true byte 0x60 h)
      by is_jci is_jmi false true f g h i = back opened at.calls (eqb-true byte 0x6C i)
      by true is_jmi false false f g h i =
          let b = eqb-true byte 0x20 f in
          went_on (eqb-false byte 0x6C i) (ap (λ n. marks (execute n s).pc) b ∙ jci b)
      by false true false false f g h i =
          let b = eqb-true byte 0x40 g in
          went_on (eqb-false byte 0x6C i) (ap (λ n. marks (execute n s).pc) b ∙ jmi b)
      by false false false false f g h i = went_on (eqb-false byte 0x6C i) (plain e f g h i)

  -- a step that goes on
  pub goes_on_lem : breaks s ≡ false → At program marks (open_after s opened) (step s)
  unfolding step decoding
  goes_on_lem e =
      let w : Went (execute (fetched s) s) (open_after s opened) = rw fetched_is (went (rw fetched_is at e)) in
      record {
        intact = ap (take (length program)) above ∙ at.intact;
        routine = w.routine;
        here = w.here;
        calls = w.calls;
        sized = step_sized s at.sized;
        range = step_range s at.range;
      }
