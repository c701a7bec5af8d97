-- Laws of one instruction: the depths after it, and where it jumps. Assumes nothing.
use Rattle.std.proofs.Common.{◌≡◌, ℕ, ◌+◌, ◌-◌, ◌*◌, ◌/◌, ◌%◌, ◌^◌, ◌<◌, not, ◌&&◌, eqb, List, [], ◌∷◌, get_or, sym, ap, ◌∙◌, arith, ne_eqb}
use Rattle.model.specs.Bytes.{number}
use Rattle.model.specs.Machine.{start}
use Rattle.model.specs.Instruction.{length_of}
use Rattle.model.specs.Admission.{Mark, byte_at, allowed, mark_after, after_of, target_of, successors}
use Rattle.model.proofs.EveryByte.{every_byte}

-- the byte at a place of the program
pub byte_is : (program : List ℕ) (i : ℕ) → byte_at program (start + i) ≡ get_or program i 0
unfolding byte_at
byte_is program i = let e : start + i - start ≡ i = omega arith in rw e

pub target_is : (program : List ℕ) (i two r : ℕ) → length_of (byte_at program (start + i)) ≡ 3
    → two ≡ get_or program (i + 1) 0 * 256 + get_or program (i + 2) 0 → r ≡ (256 + 3 + i + two) % 2 ^ 16 → r ≡ target_of program (start + i)
unfolding target_of after_of byte_at number
target_is program i two r three e f =
    let a : start + i + 1 - start ≡ i + 1 = omega arith in
    let b : start + i + 2 - start ≡ i + 2 = omega arith in
    rw (f, e, three, a, b) (omega arith)

-- the bit of a byte says whether it is forbidden, but for 6C: computed over the 256 bytes
pub bit_is : (byte : ℕ) → byte < 256 → (byte ≡ 0x6C → ⊥) → eqb (0x287000 / 2 ^ (byte % 32) % 2) 1 ≡ not (allowed byte)
unfolding allowed
bit_is byte h other =
    ap (λ b. not b && eqb (0x287000 / 2 ^ (byte % 32) % 2) 1) (sym (ne_eqb byte 0x6C other))
    ∙ every_byte (λ b. not (eqb b 0x6C) && eqb (0x287000 / 2 ^ (b % 32) % 2) 1) (λ b. not (allowed b)) tt byte h

-- ---- the addresses where an instruction goes on

module _ (program : List ℕ) (at w r q : ℕ) where
  abbrev mark : ℕ → Mark
  mark = mark_after (byte_at program at) w r

  pub after_brk : byte_at program at ≡ 0x00 → successors program at w r q ≡ []
  unfolding successors
  after_brk e = rw e

  pub after_return : byte_at program at ≡ 0x6C → successors program at w r q ≡ []
  unfolding successors
  after_return e = rw e

  pub after_jmi : byte_at program at ≡ 0x40 → successors program at w r q ≡ ((target_of program at, mark q) ∷ [])
  unfolding successors
  after_jmi e = rw e

  pub after_jci : byte_at program at ≡ 0x20 → successors program at w r q ≡ ((after_of program at, mark q) ∷ (target_of program at, mark q) ∷ [])
  unfolding successors
  after_jci e = rw e

  pub after_jsi : byte_at program at ≡ 0x60 → successors program at w r q ≡ ((target_of program at, mark (target_of program at)) ∷ [])
  unfolding successors
  after_jsi e = rw e

  pub after_other_lem : (byte_at program at ≡ 0x00 → ⊥) → (byte_at program at ≡ 0x20 → ⊥) → (byte_at program at ≡ 0x40 → ⊥)
      → (byte_at program at ≡ 0x60 → ⊥) → (byte_at program at ≡ 0x6C → ⊥) → successors program at w r q ≡ ((after_of program at, mark q) ∷ [])
  unfolding successors
  after_other_lem brk jci jmi jsi return = rw (ne_eqb _ _ brk, ne_eqb _ _ jci, ne_eqb _ _ jmi, ne_eqb _ _ jsi, ne_eqb _ _ return)
