-- Laws of push, pop and operands. Assumes nothing.
use mathlib.Core.Path.{◌≡◌, refl, sym, ◌∙◌}
use mathlib.Core.Bool.{Bool, true, false, cond}
use mathlib.Core.List.{List, [], ◌∷◌, ◌++◌}
use Prim.Native.Nat.{ℕ, zero, suc, ◌+◌, ◌*◌, ◌%◌, ◌≤◌, ◌<◌}
use native.Mathlib.Omega.{arith}
use lib.Dec.{lit<}
use lib.ListN.{length, get_or, set, take, drop, length-append, length-set}
use lib.Seq.{get_or-set_same, get_or-set_other}
use Rattle.model.specs.Bytes.{Bytes, read_ring, sum}
use Rattle.model.specs.Machine.{stack_size, Stack, stack, push, pushed, down, popped, top, lowered, numbers, three, operands}
use Rattle.model.proofs.Bytes.{nil_bytes, cons_bytes, tail_bytes, append_bytes, set-bytes, take-bytes, drop-bytes, read_mod, read_last, number_fits}

-- ---- pointers

-- one less is 255 more, and going round takes 256 away
pub popped_is : (n p : ℕ) → p < 256 → popped n p ≡ (p + 255 * n) % 256
unfolding popped
popped_is zero p h = omega arith
popped_is (suc n) p h = popped_is n (down p) (omega arith) ∙ omega arith

pub lowered_is : (keep : Bool) (n p : ℕ) → p < 256 → lowered keep n p ≡ (p + 255 * cond keep 0 n) % 256
unfolding lowered
lowered_is true n p h = omega arith
lowered_is false n p h = popped_is n p h

pub pushed-pointer : (bs : List ℕ) (s : Stack) → s.pointer < 256 → (pushed bs s).pointer ≡ (s.pointer + length bs) % 256
unfolding pushed
pushed-pointer [] s h = omega arith
pushed-pointer (b ∷ bs) s h = pushed-pointer bs (push b s) (omega arith) ∙ omega arith

-- ---- bytes

pub length-pushed : (bs : List ℕ) (s : Stack) → length (pushed bs s).bytes ≡ length s.bytes
unfolding pushed
length-pushed [] s = refl
length-pushed (b ∷ bs) s = length-pushed bs (push b s) ∙ length-set s.bytes s.pointer b

pub pushed-bytes : (bs : List ℕ) (s : Stack) → Bytes bs → Bytes s.bytes → Bytes (pushed bs s).bytes
unfolding pushed
pushed-bytes [] s h g = g
pushed-bytes (b ∷ bs) s h g = pushed-bytes bs (push b s) (tail_bytes bs h) (set-bytes s.bytes s.pointer (h 0) g)

pub pushed_append : (xs ys : List ℕ) (s : Stack) → pushed ys (pushed xs s) ≡ pushed (xs ++ ys) s
unfolding pushed
pushed_append [] ys s = refl
pushed_append (x ∷ xs) ys s = pushed_append xs ys (push x s)

pub length-top : (n : ℕ) (s : Stack) → length (top n s) ≡ n
unfolding top
length-top zero s = refl
length-top (suc n) s = simp (length-append, length-top n) (omega arith)

pub top-bytes : (n : ℕ) (s : Stack) → Bytes s.bytes → Bytes (top n s)
unfolding top
top-bytes zero s h = nil_bytes
top-bytes (suc n) s h =
    append_bytes (top n _) (get_or s.bytes _ 0 ∷ []) (top-bytes n (stack s.bytes (down s.pointer)) h)
    (cons_bytes [] (h (down s.pointer)) nil_bytes)

-- the bytes of n pops are the n bytes below the pointer, on the ring of 256
pub top-ring : (n : ℕ) (bytes : List ℕ) (p : ℕ) → top n (stack bytes p) ≡ read_ring 256 bytes (p + 255 * n) n
unfolding top read_ring
top-ring zero bytes p = refl
top-ring (suc n) bytes p =
    let e : (down p + 255 * n) % 256 ≡ (p + 255 * suc n) % 256 = omega arith in
    let f : down p ≡ (p + 255 * suc n + n) % 256 = omega arith in
    rw (top-ring n bytes (down p), read_mod 256 bytes _ _ n e, f) (sym (read_last 256 bytes (p + 255 * suc n) n))

-- ---- where nothing goes round

-- pushes leave the bytes below the pointer
pub pushed_below : (bs : List ℕ) (s : Stack) (i : ℕ) → i < s.pointer → s.pointer + length bs ≤ 255
    → get_or (pushed bs s).bytes i 0 ≡ get_or s.bytes i 0
unfolding pushed
pushed_below [] s i h l = refl
pushed_below (b ∷ bs) s i h l =
    pushed_below bs (push b s) i (omega arith) (omega arith) ∙ get_or-set_other s.bytes s.pointer i b 0 (λ e. omega arith)

-- two bytes that are pushed
pub pushed_two : (a b : ℕ) (s : Stack) → length s.bytes ≡ stack_size → s.pointer + 2 ≤ 255
    → (get_or (pushed (a ∷ b ∷ []) s).bytes s.pointer 0 ≡ a) × (get_or (pushed (a ∷ b ∷ []) s).bytes (s.pointer + 1) 0 ≡ b)
unfolding pushed
pushed_two a b s z l =
    let p = s.pointer in
    let e : (p + 1) % 256 ≡ p + 1 = omega arith in
    let one = set s.bytes p a in (
      rw e (get_or-set_other one (p + 1) p b 0 (λ i. omega arith) ∙ get_or-set_same s.bytes p a 0 (omega arith)),
      rw e (get_or-set_same one (p + 1) b 0 (omega (arith, length-set s.bytes p a))),
    )

-- two bytes that are popped
pub top_two : (s : Stack) (k : ℕ) → s.pointer ≡ k + 2 → k + 2 ≤ 255
    → top 2 s ≡ get_or s.bytes k 0 ∷ get_or s.bytes (k + 1) 0 ∷ []
unfolding top
top_two s k e l =
    let a : down s.pointer ≡ k + 1 = omega arith in
    let b : down (k + 1) ≡ k = omega arith in
    rw (a, b)

-- ---- operands are numbers of 16 bits

abbrev pub Small : List ℕ → Type 0
Small [] = Unit {0}
Small (n ∷ ns) = (n ≤ 2) × Small ns

take_short : (n : ℕ) (s : List ℕ) → length (take n s) ≤ n
take_short zero s = omega arith
take_short (suc n) [] = omega arith
take_short (suc n) (b ∷ s) = let h = take_short n s in omega arith

numbers_fit : (ns bs : List ℕ) → Small ns → Bytes bs → (i : ℕ) → get_or (numbers ns bs) i 0 < 65536
unfolding numbers
numbers_fit [] bs h g i = lit< tt
numbers_fit (n ∷ ns) bs h g zero =
    let l = take_short n bs in
    let k = h.0 in
    number_fits (take n bs) (omega arith) (take-bytes n bs g)
numbers_fit (n ∷ ns) bs h g (suc i) = numbers_fit ns (drop n bs) h.1 (drop-bytes n bs g) i

pub operands_fit : (ns : List ℕ) (s : Stack) → Small ns → Bytes s.bytes → (i : ℕ) → get_or (operands ns s) i 0 < 65536
unfolding operands
operands_fit ns s h g i = three_fit (numbers ns (top (sum ns) s)) (numbers_fit ns (top (sum ns) s) h (top-bytes (sum ns) s g)) i
  where
    three_fit : (xs : List ℕ) → ((i : ℕ) → get_or xs i 0 < 65536) → (i : ℕ) → get_or (three xs) i 0 < 65536
    three_fit xs f zero = f 0
    three_fit xs f (suc zero) = f 1
    three_fit xs f (suc (suc zero)) = f 2
    three_fit xs f (suc (suc (suc i))) = lit< tt
