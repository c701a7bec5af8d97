-- Document 01, "Admission rules" and the numbers 5, 9, 10 and 11, with document 02's C-19: what an admission answers and leaves, for
-- every program and every sheet.
-- Assumes nothing.
use Rattle.std.specs.Prelude.{◌≡◌, ◌↔◌, List, ℕ, ◌*◌, ◌≤◌, ◌<◌, length}
use Rattle.model.specs.Bytes.{zeros}
use Rattle.model.specs.Run.Answer.{Refused, Admitted}
use Rattle.model.specs.Admission.{admit_most, Way, Assignable, sheet_record, mark_in, Smallest}
use Rattle.model.specs.Admission.Mark.{marked}
use Rattle.model.specs.Calls.{AdmitResult, admit_call}

-- "A filter of 1 to 4,096 bytes, given a sheet of the right length"
pub record Proper (program sheet : List ℕ) : Type 0 where
  pub some : 1 ≤ length program
  pub most : length program ≤ admit_most
  pub size : length sheet ≡ sheet_record * length program

-- a refusal with this number, and the sheet that it leaves
abbrev pub refused : ℕ → List ℕ → AdmitResult
refused n sheet = record { answer = Refused n; sheet = sheet }

pub record Exact : Type 0 where
  -- "is admitted exactly when depths for its addresses exist that obey the admission rules"
  pub admitted : (program sheet : List ℕ) → Proper program sheet
      → ((admit_call program sheet).answer ≡ Admitted) ↔ Assignable program
  -- "The sheet written is the smallest one"
  pub written : (program sheet : List ℕ) → (admit_call program sheet).answer ≡ Admitted
      → Smallest program (admit_call program sheet).sheet
  -- "just the addresses reached from 0100"
  pub just : (program sheet : List ℕ) → (admit_call program sheet).answer ≡ Admitted
      → (at w r q : ℕ) → (mark_in (admit_call program sheet).sheet at ≡ marked w r q) ↔ Way program at w r q
  -- 11: "no assignment", "sheet all zero"
  pub none : (program sheet : List ℕ) → Proper program sheet → (Assignable program → ⊥)
      → admit_call program sheet ≡ refused 11 (zeros (length sheet))
  -- 5: "program empty"; 9: "above 4,096 bytes"; 10: C-19, "not eight times the program length"; each leaves the "sheet as found"
  pub empty : (program sheet : List ℕ) → length program ≡ 0 → admit_call program sheet ≡ refused 5 sheet
  pub long : (program sheet : List ℕ) → admit_most < length program → admit_call program sheet ≡ refused 9 sheet
  pub unfit : (program sheet : List ℕ) → 1 ≤ length program → length program ≤ admit_most
      → (length sheet ≡ sheet_record * length program → ⊥) → admit_call program sheet ≡ refused 10 sheet
