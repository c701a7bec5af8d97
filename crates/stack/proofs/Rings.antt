-- What the code reads and writes, as bytes of a ring; pushes of one and two bytes. Assumes nothing.
use Rattle.std.proofs.Common.{◌≡◌, ℕ, ◌+◌, ◌*◌, ◌/◌, ◌%◌, Bool, true, false, cond, List, get_or, set, ap, ◌∙◌, arith}
use native.Mathlib.Nat.{mod-mod}
use Rattle.model.specs.Bytes.{word, number, read_ring, write_ring}
use Rattle.model.specs.Machine.{Stack, pushed}
use Rattle.model.specs.Instruction.{size}
use Rattle.model.proofs.Bytes.{read_mod}

-- the first place, and the next one modulo the ring's size
pub read_is : (w : Bool) (m : ℕ) (s : List ℕ) (i : ℕ) {j k r : ℕ} → j ≡ i % m → k ≡ (i + 1) % m
    → r ≡ cond w (get_or s j 0 * 256 + get_or s k 0) (get_or s j 0) → r ≡ number (read_ring m s i (size w))
unfolding number read_ring size
read_is true m s i e f h = rw (← e, ← f) (omega arith)
read_is false m s i e f h = rw (← e) (omega arith)

pub write_is : (w : Bool) (m : ℕ) (s : List ℕ) (i v : ℕ) {j k : ℕ} {t : List ℕ} → j ≡ i % m → k ≡ (i + 1) % m
    → t ≡ cond w (set (set s j (v / 256 % 256)) k (v % 256)) (set s j (v % 256)) → t ≡ write_ring m s i (word (size w) v)
unfolding word write_ring size
write_is true m s i v e f h = rw (← e, ← f) h
write_is false m s i v e f h = rw (← e) h

-- a number of two bytes as two pushes, the high byte first
pub pushed_two : (v : ℕ) (s : Stack) {t u : Stack} → t ≡ pushed (word 1 (v / 256)) s → u ≡ pushed (word 1 v) t → u ≡ pushed (word 2 v) s
unfolding pushed word
pushed_two v s e f = rw (f, e)

-- a place that has gone round already
pub read_from : (m : ℕ) (s : List ℕ) (i n : ℕ) {j r : ℕ} → j ≡ i % m → r ≡ number (read_ring m s j n) → r ≡ number (read_ring m s i n)
read_from m s i n {j} e h = rw (← read_mod m s j i n (ap (λ k. k % m) e ∙ mod-mod i m)) h
