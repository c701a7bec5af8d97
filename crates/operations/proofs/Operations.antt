-- What an operation leaves, from what its code took, read and pushed. Assumes nothing.
use Rattle.std.proofs.Common.{◌≡◌, ℕ, Bool, cond, eqb, List, get_or, ne_eqb}
use Rattle.model.specs.Machine.{Stack, stack, pushed, operands}
use Rattle.model.specs.Instruction.{Op, size, shape}
use Rattle.model.specs.Step.{Effect, effect, effect_on, words, main_after, other_after, written}
use Rattle.operations.proofs.Operands.{Took}

-- opens the tables of what operations take and give
unfoldable pub tables : Unit {0}
unfolding shape effect words
tables = tt

-- the effect, with the operands x
abbrev read : (memory devices : List ℕ) (next i : ℕ) → Op → Bool → List ℕ → Effect
read memory devices next i o w x = effect memory devices (size w) next i (get_or x 0 0) (get_or x 1 0) (get_or x 2 0) o

module _ (memory devices : List ℕ) (next i : ℕ) (o : Op) (w : Bool) where
  -- the operands x were read
  effect_is : (s x : List ℕ) (p : ℕ) → x ≡ operands (shape (size w) o).takes (stack s p)
      → effect_on memory devices next i o w (stack s p) ≡ read memory devices next i o w x
  unfolding effect_on
  effect_is s x p h = rw (← h)

  -- and the results were pushed
  pub gave : {keep : Bool} {s x : List ℕ} {p q : ℕ} {t : Stack} → Took keep s p (shape (size w) o).takes x q
      → t ≡ pushed (words (shape (size w) o).gives (read memory devices next i o w x).main) (stack s q)
      → t ≡ main_after o w keep (effect_on memory devices next i o w (stack s p)) (stack s p)
  unfolding main_after
  gave h g = rw (effect_is _ _ _ h.operands, ← h.pointer) g

  -- or stored, or pushed on the other stack, or it jumps
  pub stored : (s x : List ℕ) (p : ℕ) (buffer : List ℕ) {m : List ℕ} → x ≡ operands (shape (size w) o).takes (stack s p)
      → m ≡ written (read memory devices next i o w x) (size w) buffer
      → m ≡ written (effect_on memory devices next i o w (stack s p)) (size w) buffer
  stored s x p buffer h g = rw (effect_is s x p h) g

  pub passed : (s x : List ℕ) (p : ℕ) (u : Stack) {t : Stack} → x ≡ operands (shape (size w) o).takes (stack s p)
      → t ≡ other_after o w (read memory devices next i o w x) u
      → t ≡ other_after o w (effect_on memory devices next i o w (stack s p)) u
  passed s x p u h g = rw (effect_is s x p h) g

  pub jumped : (s x : List ℕ) (p : ℕ) {r : ℕ} → x ≡ operands (shape (size w) o).takes (stack s p)
      → r ≡ (read memory devices next i o w x).target → r ≡ (effect_on memory devices next i o w (stack s p)).target
  jumped s x p h g = rw (effect_is s x p h) g

-- "jump if cond is not 0"
module _ (a next to : ℕ) {r : ℕ} where
  pub stays : a ≡ 0 → r ≡ next → r ≡ cond (eqb a 0) next to
  stays z h = rw z h

  pub jumps : (a ≡ 0 → ⊥) → r ≡ to → r ≡ cond (eqb a 0) next to
  jumps z h = rw (ne_eqb a 0 z) h
