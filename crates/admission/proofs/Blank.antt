-- Laws of a sheet of records that are not marked. Assumes nothing.
use mathlib.Core.Path.{◌≡◌, refl, sym, ap, ◌∙◌}
use mathlib.Core.List.{List}
use Prim.Native.Nat.{ℕ, zero, suc, ◌+◌, ◌-◌, ◌*◌, ◌≤◌, ◌<◌}
use native.Mathlib.Decide.{ℕ_discrete, dec_lt}
use native.Mathlib.Omega.{arith}
use lib.ListN.{length, get_or, set, length-set, replicate, length-replicate}
use lib.Seq.{get_or-set_same, get_or-set_other, ext_get_or}
use Rattle.model.specs.Bytes.{zeros}
use Rattle.model.specs.Admission.{sheet_record, record_of, sheet_of}
use Rattle.model.specs.Admission.Mark.{unmarked}
use Rattle.model.proofs.Reached.{blank_mark}
use Rattle.model.proofs.Sheet.{length-sheet}
use Rattle.worklist.proofs.Sheets.{byte_of_record}

abbrev pub blank : List ℕ → List ℕ
blank program = sheet_of (replicate (length program) unmarked) program

pub length_blank : (program : List ℕ) → length (blank program) ≡ sheet_record * length program
length_blank program = length-sheet (replicate (length program) unmarked) program (length-replicate (length program) unmarked)

-- the first i records are those, the others are zero
pub record Blanked (program sheet : List ℕ) (i : ℕ) : Type 0 where
  pub size : length sheet ≡ sheet_record * length program
  pub done : (j : ℕ) → j < sheet_record * i → get_or sheet j 0 ≡ get_or (blank program) j 0
  pub rest : (j : ℕ) → sheet_record * i ≤ j → get_or sheet j 0 ≡ 0

pub zero-at : (n j : ℕ) → get_or (zeros n) j 0 ≡ 0
zero-at zero j = refl
zero-at (suc n) zero = refl
zero-at (suc n) (suc j) = zero-at n j

pub zeros_blanked : (program sheet : List ℕ) → length sheet ≡ sheet_record * length program → Blanked program (zeros (length sheet)) 0
zeros_blanked program sheet l =
    record { size = length-replicate (length sheet) 0 ∙ l; done = λ j h. absurd (omega arith); rest = λ j h. zero-at (length sheet) j }

-- a record without a mark is zero but for its program byte
unmarked-byte : (byte k : ℕ) → (k ≡ 3 → ⊥) → get_or (record_of unmarked byte) k 0 ≡ 0
unmarked-byte byte zero h = refl
unmarked-byte byte (suc zero) h = refl
unmarked-byte byte (suc (suc zero)) h = refl
unmarked-byte byte (suc (suc (suc zero))) h = absurd (h refl)
unmarked-byte byte (suc (suc (suc (suc zero)))) h = refl
unmarked-byte byte (suc (suc (suc (suc (suc zero))))) h = refl
unmarked-byte byte (suc (suc (suc (suc (suc (suc zero)))))) h = refl
unmarked-byte byte (suc (suc (suc (suc (suc (suc (suc zero))))))) h = refl
unmarked-byte byte (suc (suc (suc (suc (suc (suc (suc (suc k)))))))) h = refl

pub next_blanked : (program sheet : List ℕ) (i : ℕ) → i < length program → Blanked program sheet i
    → Blanked program (set sheet (sheet_record * i + 3) (get_or program i 0)) (i + 1)
next_blanked program sheet i h g =
    record {
      size = simp length-set g.size;
      done = λ j l. elim (ℕ_discrete j (sheet_record * i + 3)) [
        | yes e ↦ rw e (get_or-set_same sheet (sheet_record * i + 3) (get_or program i 0) 0 (omega (arith, g.size)) ∙ sym (byte 3 (omega arith)))
        | no e ↦ get_or-set_other sheet (sheet_record * i + 3) j (get_or program i 0) 0 e ∙ old j l e
      ];
      rest = λ j l. get_or-set_other sheet (sheet_record * i + 3) j (get_or program i 0) 0 (λ e. omega arith) ∙ g.rest j (omega arith);
    }
  where
    byte : (k : ℕ) → k < sheet_record → get_or (blank program) (sheet_record * i + k) 0 ≡ get_or (record_of unmarked (get_or program i 0)) k 0
    byte k l =
        byte_of_record (replicate (length program) unmarked) program i k (length-replicate (length program) unmarked) h l
        ∙ ap (λ x. get_or (record_of x (get_or program i 0)) k 0) (blank_mark (length program) i)

    old : (j : ℕ) → j < sheet_record * (i + 1) → (j ≡ sheet_record * i + 3 → ⊥) → get_or sheet j 0 ≡ get_or (blank program) j 0
    old j l e = elim (dec_lt j (sheet_record * i)) [
      | yes b ↦ g.done j b
      | no b ↦
          let k = j - sheet_record * i in
          let z : sheet_record * i + k ≡ j = omega arith in
          g.rest j (omega arith) ∙ sym (rw z at (byte k (omega arith) ∙ unmarked-byte (get_or program i 0) k (λ f. e (omega arith))))
    ]

pub all_blanked : (program sheet : List ℕ) (i : ℕ) → length program ≤ i → Blanked program sheet i → sheet ≡ blank program
all_blanked program sheet i h g =
    ext_get_or 0 sheet (blank program) (g.size ∙ sym (length_blank program)) (λ j l. g.done j (omega (arith, g.size)))
