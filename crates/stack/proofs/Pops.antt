-- The operands that the code reads, and the pointer that it leaves. Assumes nothing.
use Rattle.std.proofs.Common.{◌≡◌, ℕ, zero, suc, ◌+◌, ◌*◌, ◌%◌, ◌<◌, ◌≤◌, Bool, true, false, eqb, List, [], ◌∷◌, take, drop, refl, arith}
use Rattle.model.specs.Bytes.{number, read_ring}
use Rattle.model.specs.Instruction.{size}
use Rattle.model.specs.Machine.{stack, numbers, operands, lowered}
use Rattle.model.proofs.Bytes.{read_mod}
use Rattle.model.proofs.Stacks.{popped_is, top-ring}

-- ---- a read cut in two

take-ring : (m : ℕ) (s : List ℕ) (i a n : ℕ) → take a (read_ring m s i (a + n)) ≡ read_ring m s i a
unfolding read_ring
take-ring m s i zero n = refl
take-ring m s i (suc a) n = let e : suc a + n ≡ suc (a + n) = omega arith in rw (e, take-ring m s (i + 1) a n)

drop-ring : (m : ℕ) (s : List ℕ) (i a n : ℕ) → drop a (read_ring m s i (a + n)) ≡ read_ring m s (i + a) n
unfolding read_ring
drop-ring m s i zero n =
    let e : i + 0 ≡ i = omega arith in
    let f : 0 + n ≡ n = omega arith in
    rw (e, f)
drop-ring m s i (suc a) n =
    let e : i + 1 + a ≡ i + suc a = omega arith in
    let f : suc a + n ≡ suc (a + n) = omega arith in
    rw (f, drop-ring m s (i + 1) a n, e)

-- ---- operands

-- the number of n bytes below the pointer
abbrev pub below : List ℕ → ℕ → ℕ → ℕ
below s p n = number (read_ring 256 s (p + 255 * n) n)

pub none_below : (s : List ℕ) (p : ℕ) {n : ℕ} → n ≡ 0 → 0 ≡ below s p n
unfolding number read_ring
none_below s p e = rw e

-- a number of one or two bytes that begins n below the pointer
pub some_below : (s : List ℕ) (p n q : ℕ) {r : ℕ} → (n ≡ 0 → ⊥) → n ≤ 2 → q % 256 ≡ (p + 255 * n) % 256
    → r ≡ number (read_ring 256 s q (size (eqb n 2))) → r ≡ below s p n
unfolding size
some_below s p zero q z l e h = absurd (z refl)
some_below s p (suc zero) q z l e h = rw (← read_mod 256 s q (p + 255) 1 e) h
some_below s p (suc (suc zero)) q z l e h = rw (← read_mod 256 s q (p + 510) 2 e) h
some_below s p (suc (suc (suc n))) q z l e h = absurd (omega arith)

pub operands_are : (s : List ℕ) (p a b c q o : ℕ) {x y z : ℕ} → (q + c) % 256 ≡ p → (o + b) % 256 ≡ q
    → x ≡ below s o a → y ≡ below s q b → z ≡ below s p c → (x ∷ y ∷ z ∷ []) ≡ operands (a ∷ b ∷ c ∷ []) (stack s p)
unfolding operands numbers
operands_are s p a b c q o {x} {y} {z} e d h g k =
    let i = p + 255 * (a + (b + (c + 0))) in
    let u : x ≡ number (read_ring 256 s i a) = rw (read_mod 256 s i (o + 255 * a) a (omega arith)) h in
    let v : y ≡ number (read_ring 256 s (i + a) b) = rw (read_mod 256 s (i + a) (q + 255 * b) b (omega arith)) g in
    let w : z ≡ number (read_ring 256 s (i + a + b) c) = rw (read_mod 256 s (i + a + b) (p + 255 * c) c (omega arith)) k in
    rw (
      top-ring (a + (b + (c + 0))) s p,
      take-ring 256 s i a (b + (c + 0)),
      drop-ring 256 s i a (b + (c + 0)),
      take-ring 256 s (i + a) b (c + 0),
      drop-ring 256 s (i + a) b (c + 0),
      take-ring 256 s (i + a + b) c 0,
      ← u,
      ← v,
      ← w,
    )

-- ---- the pointer

pub kept : {keep : Bool} (n p : ℕ) → keep ≡ true → p ≡ lowered keep n p
unfolding lowered
kept n p e = rw e

pub lower_is : {keep : Bool} (n p : ℕ) {q : ℕ} → keep ≡ false → (q + n) % 256 ≡ p → q < 256 → q ≡ lowered keep n p
unfolding lowered
lower_is n p e f g = rw (e, popped_is n p (omega arith)) (omega arith)
