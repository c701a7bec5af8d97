-- The whole reply of a step, from what the code of its operation leaves of the parts that it touches. Assumes nothing.
use Rattle.std.proofs.Common.{◌≡◌, ℕ, zero, suc, ◌+◌, ◌/◌, ◌%◌, ◌<◌, Bool, true, false, cond, not, ◌&&◌, T, eqb, ltb, List, [], sym, ap, refl, ◌∙◌, arith, ltb→lt, eq-eqb, ne_eqb, eqb-true}
use borrow.Author.Tests.{eqb-false}
use Rattle.model.specs.Bytes.{word, number, read_ring, places_ring, write_ring}
use Rattle.model.specs.Machine.{memory_size, page_size, Stack, stack, HighMarks, State, pushed, popped, lowered}
use Rattle.model.specs.Instruction.{Op, op_at, op_of, wide, size, return_mode, keep_mode, shape}
use Rattle.model.specs.Instruction.Op.{JCI, INC, POP, NIP, SWP, ROT, DUP, OVR, compare, JMP, JCN, JSR, STH, LDZ, STZ, LDR, STR, LDA, STA, DEI, DEO, compute, SFT}
use Rattle.model.specs.Step.{offset, effect, effect_on, words, main_after, other_after, written, applied, exchanged, operated, execute, sent_by, ports_of}
use Rattle.model.specs.Run.{Reply, reply, with_ports}
use Rattle.model.specs.Run.Answer.{WentOn, Broke}
use Rattle.model.proofs.Tests.{and_left, and_right, is_true, not-true}
use Rattle.model.proofs.Changes.{stores_devices}
use Rattle.model.proofs.Pauses.{no_ports, deo_ports}
use Rattle.operations.specs.After.{main_with, executed, byte_of}

-- the state after an operation, its main stack being the working stack, part by part
abbrev pub left : HighMarks → List ℕ → List ℕ → Stack → Stack → ℕ → State
left high memory devices work ret pc = record { memory = memory; devices = devices; work = work; ret = ret; pc = pc; high = high }

-- the address after an instruction byte
abbrev pub next : State → ℕ
next s = (s.pc + 1) % 65536

-- the operation touches its main stack alone
abbrev pub pure : Op → Bool
pure INC = true
pure POP = true
pure NIP = true
pure SWP = true
pure ROT = true
pure DUP = true
pure OVR = true
pure (compare o) = true
pure LDZ = true
pure LDR = true
pure LDA = true
pure DEI = true
pure (compute o) = true
pure SFT = true
pure o = false

-- the operation stores in memory
abbrev pub stores : Op → Bool
stores STZ = true
stores STR = true
stores STA = true
stores o = false

-- what such operations use of the state besides their main stack: the memory, the device page and the next address, or none
abbrev pub memory_for : Op → State → List ℕ
memory_for LDZ s = s.memory
memory_for LDR s = s.memory
memory_for LDA s = s.memory
memory_for o s = []

abbrev pub devices_for : Op → State → List ℕ
devices_for DEI s = s.devices
devices_for o s = []

abbrev pub next_for : Op → State → ℕ
next_for LDR s = next s
next_for STR s = next s
next_for o s = 0

-- the bytes of the place where such an operation stores
abbrev pub place_bytes : Op → ℕ
place_bytes STA = 2
place_bytes o = 1

-- the main stack, the memory and the main stack's pointer afterwards
abbrev pub main_left : Op → Bool → Bool → State → Stack
main_left o w k s = main_with (memory_for o s) (devices_for o s) (next_for o s) o w k s.work

abbrev pub memory_left : Op → Bool → State → List ℕ
memory_left o w s = written (effect_on [] [] (next_for o s) 0 o w s.work) (size w) s.memory

abbrev pub pointer_left : Op → Bool → Bool → State → ℕ
pointer_left o w k s = lowered k (cond w (2 + place_bytes o) (1 + place_bytes o)) s.work.pointer

-- the state after an operation that touches its main stack alone, and after one that stores in memory
abbrev pub with_main : State → Stack → State
with_main s t = left s.high s.memory s.devices t s.ret (next s)

abbrev pub with_memory : State → List ℕ → ℕ → State
with_memory s m q = left s.high m s.devices (stack s.work.bytes q) s.ret (next s)

-- opens the definition of an operation on the state
unfoldable opened : Unit {0}
unfolding applied shape written other_after words pushed word write_ring main_after effect_on effect size
opened = tt

-- the pointer after bytes are taken, as many as hang on the width
by_size : (f : ℕ → ℕ) (w k : Bool) (p : ℕ) {q : ℕ} → q ≡ lowered k (cond w (f 2) (f 1)) p → q ≡ lowered k (f (size w)) p
unfolding size
by_size f true k p h = h
by_size f false k p h = h

-- q is the pointer of the main stack afterwards
module _ (w k : Bool) (s : State) where
  pure_is : (o : Op) → T (pure o) → {t : Stack} → t ≡ main_left o w k s → with_main s t ≡ applied o w k s
  unfolding opened
  pure_is INC y g = rw g
  pure_is POP y g = rw g
  pure_is NIP y g = rw g
  pure_is SWP y g = rw g
  pure_is ROT y g = rw g
  pure_is DUP y g = rw g
  pure_is OVR y g = rw g
  pure_is (compare o) y g = rw g
  pure_is LDZ y g = rw g
  pure_is LDR y g = rw g
  pure_is LDA y g = rw g
  pure_is DEI y g = rw g
  pure_is (compute o) y g = rw g
  pure_is SFT y g = rw g
  pure_is o y g = absurd y

  store_is : (o : Op) → T (stores o) → {m : List ℕ} {q : ℕ} → m ≡ memory_left o w s → q ≡ pointer_left o w k s
      → with_memory s m q ≡ applied o w k s
  unfolding opened
  store_is STZ y g h = rw (g, by_size (λ i. i + 1) w k s.work.pointer h)
  store_is STR y g h = rw (g, by_size (λ i. i + 1) w k s.work.pointer h)
  store_is STA y g h = rw (g, by_size (λ i. i + 2) w k s.work.pointer h)
  store_is o y g h = absurd y

  pub deo_is : {d : List ℕ} {q : ℕ} → d ≡ written (effect_on [] [] 0 0 DEO w s.work) (size w) s.devices
      → q ≡ lowered k (cond w 3 2) s.work.pointer
      → left s.high s.memory d (stack s.work.bytes q) s.ret (next s) ≡ applied DEO w k s
  unfolding opened
  deo_is g h = rw (g, by_size (λ i. i + 1) w k s.work.pointer h)

  pub jmp_is : {r q : ℕ} → r ≡ (effect_on [] [] (next s) 0 JMP w s.work).target → q ≡ lowered k (cond w 2 1) s.work.pointer
      → left s.high s.memory s.devices (stack s.work.bytes q) s.ret r ≡ applied JMP w k s
  unfolding opened
  jmp_is g h = rw (g, by_size (λ i. i + 0) w k s.work.pointer h)

  pub jcn_is : {r q : ℕ} → r ≡ (effect_on [] [] (next s) 0 JCN w s.work).target → q ≡ lowered k (cond w 3 2) s.work.pointer
      → left s.high s.memory s.devices (stack s.work.bytes q) s.ret r ≡ applied JCN w k s
  unfolding opened
  jcn_is g h = rw (g, by_size (λ i. 1 + (i + 0)) w k s.work.pointer h)

  pub jsr_is : {r q : ℕ} {u : Stack} → r ≡ (effect_on [] [] (next s) 0 JMP w s.work).target → u ≡ pushed (word (size true) (next s)) s.ret
      → q ≡ lowered k (cond w 2 1) s.work.pointer
      → left s.high s.memory s.devices (stack s.work.bytes q) u r ≡ applied JSR w k s
  unfolding opened
  jsr_is g f h = rw (g, f, by_size (λ i. i + 0) w k s.work.pointer h)

  pub sth_is : {q : ℕ} {u : Stack} → u ≡ other_after STH w (effect_on [] [] 0 0 STH w s.work) s.ret
      → q ≡ lowered k (cond w 2 1) s.work.pointer
      → left s.high s.memory s.devices (stack s.work.bytes q) u (next s) ≡ applied STH w k s
  unfolding opened
  sth_is f h = rw (f, by_size (λ i. i + 0) w k s.work.pointer h)

-- ---- by the low seven bits and keep

-- low five bits not 0: the high bits do not choose the operation
op_high : (op high : ℕ) → 0 < op → op_at op 0 ≡ op_at op high
op_high zero high h = absurd (omega arith)
op_high (suc k) high h = refl

-- bit 7, and what the other bits say without it
keep_is : (key : ℕ) (k : Bool) → key < 128 → keep_mode (byte_of key k) ≡ k
unfolding keep_mode
keep_is key true h = eq-eqb ((key + 128) / 128 % 2) 1 (omega arith)
keep_is key false h = ne_eqb ((key + 0) / 128 % 2) 1 (λ e. omega arith)

bits_are : (key : ℕ) (k : Bool)
    → (byte_of key k % 32 ≡ key % 32) × (byte_of key k / 32 % 2 ≡ key / 32 % 2) × (byte_of key k / 64 % 2 ≡ key / 64 % 2)
bits_are key true = (omega arith, omega arith, omega arith)
bits_are key false = (omega arith, omega arith, omega arith)

-- what the code says of a step that went on: the state that it left, and so many ports from this one on
abbrev pub went : ℕ → ℕ → State → Reply
went port sent t = with_ports (places_ring page_size port sent) (reply WentOn 1 0 t)

-- what the low seven bits say: the operation, is it 16 bits wide, is the return stack its main stack
abbrev pub op_key : ℕ → Op
op_key N = op_at (N % 32) 0

abbrev pub wide_key : ℕ → Bool
wide_key N = eqb (N / 32 % 2) 1

abbrev pub return_key : ℕ → Bool
return_key N = eqb (N / 64 % 2) 1

-- the state with its main stack in the working stack's place
abbrev pub turned : ℕ → State → State
turned N s = exchanged (return_key N) s

-- an arm for key N, which writes these ports
with_ports_lem : (N : ℕ) (k : Bool) (s : State) → 0 < N % 32 → N < 128 → {key : ℕ} {t : State} (ports : List ℕ) → key ≡ N
    → t ≡ applied (op_key N) (wide_key N) k (turned N s) → ports ≡ ports_of (byte_of N k) s
    → with_ports ports (reply WentOn 1 0 (turned N t)) ≡ executed (byte_of key k) s
unfolding execute operated op_of wide return_mode
with_ports_lem N k s h l ports e g p =
    let b = bits_are N k in
    let some : byte_of N k ≡ 0 → ⊥ = λ z. let low = b.0 in omega arith in
    rw (e, p, ne_eqb _ _ some, keep_is N k l, b.0, b.1, b.2, ← op_high (N % 32) (byte_of N k / 32) h, ← g)

byte_low : (N : ℕ) (k : Bool) → N < 128 → byte_of N k < 256
byte_low N true l = omega arith
byte_low N false l = omega arith

-- the key of an arm that is neither an exception nor DEO
abbrev pub quiet : ℕ → Bool
quiet N = ltb 0 (N % 32) && (not (eqb (N % 32) 0x17) && ltb N 128)

-- the arm for key N, by what its operation leaves: it writes no port
pub arm : (N : ℕ) (k : Bool) (s : State) → T (quiet N) → {key : ℕ} {high : HighMarks} {m d : List ℕ} {t u : Stack} {p : ℕ} → key ≡ N
    → left high m d t u p ≡ applied (op_key N) (wide_key N) k (turned N s)
    → went 0 0 (turned N (left high m d t u p)) ≡ executed (byte_of key k) s
unfolding places_ring
arm N k s y e g =
    let rest = and_right (ltb 0 (N % 32)) _ y in
    let l = ltb→lt N 128 (and_right (not (eqb (N % 32) 0x17)) _ rest) in
    let other = eqb-false (N % 32) 0x17 (not-true (eqb (N % 32) 0x17) (and_left (not (eqb (N % 32) 0x17)) _ rest)) in
    let none : stores_devices (byte_of N k) ≡ false = rw ((bits_are N k).0, ne_eqb (N % 32) 0x17 other) in
    with_ports_lem N k s (ltb→lt 0 (N % 32) (and_left (ltb 0 (N % 32)) _ y)) l [] e g (sym (no_ports (byte_of N k) s (byte_low N k l) none))

-- the arm for key N, whose operation touches its main stack alone
pub pure_arm : (N : ℕ) (k : Bool) (s : State) → T (quiet N && pure (op_key N)) → {key : ℕ} {t : Stack} → key ≡ N
    → t ≡ main_left (op_key N) (wide_key N) k (turned N s)
    → went 0 0 (turned N (with_main (turned N s) t)) ≡ executed (byte_of key k) s
pure_arm N k s y e g =
    arm N k s (and_left (quiet N) _ y) e (pure_is (wide_key N) k (turned N s) (op_key N) (and_right (quiet N) _ y) g)

-- the arm for key N, whose operation stores in memory
pub store_arm : (N : ℕ) (k : Bool) (s : State) → T (quiet N && stores (op_key N)) → {key : ℕ} {m : List ℕ} {q : ℕ} → key ≡ N
    → m ≡ memory_left (op_key N) (wide_key N) (turned N s) → q ≡ pointer_left (op_key N) (wide_key N) k (turned N s)
    → went 0 0 (turned N (with_memory (turned N s) m q)) ≡ executed (byte_of key k) s
store_arm N k s y e g h =
    arm N k s (and_left (quiet N) _ y) e (store_is (wide_key N) k (turned N s) (op_key N) (and_right (quiet N) _ y) g h)

size_is : (w : Bool) → cond w 2 1 ≡ size w
unfolding size
size_is true = refl
size_is false = refl

-- the arm for key N, which is DEO
pub deo_arm : (N : ℕ) (k : Bool) (s : State) → T (eqb (N % 32) 0x17 && ltb N 128)
    → {key port : ℕ} {high : HighMarks} {m d : List ℕ} {t u : Stack} {p : ℕ} → key ≡ N
    → left high m d t u p ≡ applied (op_key N) (wide_key N) k (turned N s)
    → port ≡ (effect_on [] [] 0 0 DEO (wide_key N) (turned N s).work).place
    → went port (cond (wide_key N) 2 1) (turned N (left high m d t u p)) ≡ executed (byte_of key k) s
unfolding wide return_mode
deo_arm N k s y {port = port} e g p =
    let l = ltb→lt N 128 (and_right (eqb (N % 32) 0x17) _ y) in
    let b = bits_are N k in
    let low = eqb-true (N % 32) 0x17 (is_true _ (and_left (eqb (N % 32) 0x17) _ y)) in
    let ports : places_ring page_size port (cond (wide_key N) 2 1) ≡ ports_of (byte_of N k) s =
    rw (deo_ports (byte_of N k) s (b.0 ∙ low), b.1, b.2, p, size_is (wide_key N)) in
    with_ports_lem N k s (omega arith) l _ e g ports

-- what an operation leaves whose main stack is the return stack
pub on_return : (o : Op) (w k : Bool) (s : State) {m d : List ℕ} {t u : Stack} {n : ℕ} → left s.high m d u t n ≡ applied o w k (exchanged true s)
    → left s.high m d t u n ≡ operated o w true k s
unfolding operated
on_return o w k s g = ap (exchanged true) g

-- ---- the exceptions

-- the number after the instruction byte
abbrev pub inlined : State → Bool → ℕ
inlined s w = number (read_ring memory_size s.memory (s.pc + 1) (size w))

unfoldable decoded : Unit {0}
unfolding execute ports_of sent_by places_ring op_of wide return_mode keep_mode operated opened lowered popped
decoded = tt

module _ (s : State) {key : ℕ} {k : Bool} where
  pub brk_is : key ≡ 0 → k ≡ false → reply Broke 1 0 (with_main s s.work) ≡ executed (byte_of key k) s
  unfolding decoded
  brk_is e f = rw (e, f)

  pub jci_is : {r q : ℕ} → key ≡ 32 → k ≡ false → r ≡ (effect_on [] [] ((s.pc + 3) % 65536) (inlined s true) JCI false s.work).target
      → q ≡ lowered false 1 s.work.pointer
      → went 0 0 (left s.high s.memory s.devices (stack s.work.bytes q) s.ret r) ≡ executed (byte_of key k) s
  unfolding decoded
  jci_is e f hr hq = rw (e, f, hr, hq)

  pub jmi_is : {r : ℕ} → key ≡ 64 → k ≡ false → r ≡ offset ((s.pc + 3) % 65536) (inlined s true)
      → went 0 0 (left s.high s.memory s.devices s.work s.ret r) ≡ executed (byte_of key k) s
  unfolding decoded
  jmi_is e f hr = rw (e, f, hr)

  pub jsi_is : {r : ℕ} {t : Stack} → key ≡ 96 → k ≡ false → r ≡ offset ((s.pc + 3) % 65536) (inlined s true)
      → t ≡ pushed (word (size true) ((s.pc + 3) % 65536)) s.ret
      → went 0 0 (left s.high s.memory s.devices s.work t r) ≡ executed (byte_of key k) s
  unfolding decoded
  jsi_is e f hr ht = rw (e, f, hr, ht)

-- LIT, in both widths and on either stack
pub lit_is : (w r : Bool) (s : State) {key : ℕ} {k : Bool} {t : Stack} → key ≡ cond r 64 0 + cond w 32 0 → k ≡ true
    → t ≡ pushed (word (size w) (inlined s w)) (exchanged r s).work
    → went 0 0 (exchanged r (left s.high s.memory s.devices t (exchanged r s).ret ((s.pc + cond w 3 2) % 65536))) ≡ executed (byte_of key k) s
unfolding decoded
lit_is true true s e f ht = rw (e, f, ht)
lit_is true false s e f ht = rw (e, f, ht)
lit_is false true s e f ht = rw (e, f, ht)
lit_is false false s e f ht = rw (e, f, ht)
