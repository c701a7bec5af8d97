-- What an operation has taken, and the pushes after it. Assumes nothing.
use Rattle.std.proofs.Common.{◌≡◌, ℕ, ◌+◌, ◌/◌, ◌%◌, Bool, true, false, List, [], ◌∷◌, ◌++◌, refl, append_assoc, append-nil, arith}
use Rattle.model.specs.Bytes.{word, number, sum}
use Rattle.model.specs.Machine.{Stack, stack, pushed, numbers, operands, lowered}
use Rattle.model.specs.Instruction.{size}
use Rattle.model.proofs.Stacks.{pushed_append}

-- ---- operands of 0 bytes are none

operands-one : (a : ℕ) (s : Stack) → operands (a ∷ 0 ∷ 0 ∷ []) s ≡ operands (a ∷ []) s
unfolding operands numbers number
operands-one a s = refl

operands_two : (a b : ℕ) (s : Stack) → operands (a ∷ b ∷ 0 ∷ []) s ≡ operands (a ∷ b ∷ []) s
unfolding operands numbers number
operands_two a b s = refl

module _ (s : Stack) {x : List ℕ} where
  pub read_one : (n m : ℕ) → n ≡ m → x ≡ operands (n ∷ 0 ∷ 0 ∷ []) s → x ≡ operands (m ∷ []) s
  read_one n m e h = rw (← operands-one m s, ← e) h

  pub read_two : (n m i j : ℕ) → n ≡ m → i ≡ j → x ≡ operands (n ∷ i ∷ 0 ∷ []) s → x ≡ operands (m ∷ j ∷ []) s
  read_two n m i j e f h = rw (← operands_two m j s, ← e, ← f) h

-- the operands of these sizes were read, and the pointer is q
pub record Took (keep : Bool) (s : List ℕ) (p : ℕ) (sizes x : List ℕ) (q : ℕ) : Type 0 where
  pub operands : x ≡ operands sizes (stack s p)
  pub pointer : q ≡ lowered keep (sum sizes) p

module _ {keep : Bool} {s x : List ℕ} {p q : ℕ} where
  pub one : (n m : ℕ) → n ≡ m → x ≡ operands (n ∷ 0 ∷ 0 ∷ []) (stack s p) → q ≡ lowered keep n p → Took keep s p (m ∷ []) x q
  one n m e h g =
      let z : m + 0 ≡ n = omega arith in
      record { operands = read_one (stack s p) n m e h; pointer = rw z g }

  pub two : (n m i j : ℕ) → n ≡ m → i ≡ j → x ≡ operands (n ∷ i ∷ 0 ∷ []) (stack s p) → q ≡ lowered keep (n + i) p
      → Took keep s p (m ∷ j ∷ []) x q
  two n m i j e f h g =
      let z : m + (j + 0) ≡ n + i = omega arith in
      record { operands = read_two (stack s p) n m i j e f h; pointer = rw z g }

  pub three : (n m : ℕ) → n ≡ m → x ≡ operands (n ∷ n ∷ n ∷ []) (stack s p) → q ≡ lowered keep (n + n + n) p
      → Took keep s p (m ∷ m ∷ m ∷ []) x q
  three n m e h g =
      let z : m + (m + (m + 0)) ≡ n + n + n = omega arith in
      record { operands = rw (← e) h; pointer = rw z g }

-- ---- one result, two, three: each pushed where the last push left the pointer
module _ (a b c : List ℕ) (s : Stack) where
  pub push-one : {t : Stack} → t ≡ pushed a s → t ≡ pushed (a ++ []) s
  push-one e = rw (append-nil a) e

  pub push_two : {t u : Stack} → t ≡ pushed a s → u ≡ pushed b t → u ≡ pushed (a ++ (b ++ [])) s
  push_two e f = rw (append-nil b, ← pushed_append a b s, ← e) f

  pub push-three : {t u v : Stack} → t ≡ pushed a s → u ≡ pushed b t → v ≡ pushed c u → v ≡ pushed (a ++ (b ++ (c ++ []))) s
  push-three e f g =
      rw (append-nil c, ← append_assoc a b c, ← pushed_append (a ++ b) c s, ← pushed_append a b s, ← e, ← f) g

-- "low 8 or 16 bits kept"
word_same : (w : Bool) (x y : ℕ) → x % 65536 ≡ y % 65536 → word (size w) x ≡ word (size w) y
unfolding word size
word_same true x y e =
    let a : x / 256 % 256 ≡ y / 256 % 256 = omega arith in
    let b : x % 256 ≡ y % 256 = omega arith in
    rw (a, b)
word_same false x y e = let b : x % 256 ≡ y % 256 = omega arith in rw b

-- one result of 16 bits, of which an operation keeps its own width
pub push_kept : (w : Bool) (v n : ℕ) (s : Stack) {t : Stack} → v ≡ n % 65536 → t ≡ pushed (word (size w) v) s → t ≡ pushed (word (size w) n ++ []) s
push_kept w v n s e h = rw (append-nil (word (size w) n), ← word_same w v n (omega arith)) h
