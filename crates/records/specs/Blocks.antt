-- C-16, a file of any length that is moved block by block: what a block comes to. Assumes nothing.
use Rattle.std.specs.Prelude.{cond, ◌||◌, List, [], ◌∷◌, ℕ, eqb}
use Rattle.model.specs.Calls.{refusal}
use Rattle.model.specs.RecordMoves.{old_form, new_form, moved_file, file_rows}
use Rattle.model.specs.declared.Form.{Form}
use Rattle.records.specs.declared.Direction.{Direction}

-- the forms that a direction leads from and to
abbrev pub from_form : Direction → Form
from_form Direction.Widen = old_form
from_form Direction.Narrow = new_form

abbrev pub to_form : Direction → Form
to_form Direction.Widen = new_form
to_form Direction.Narrow = old_form

-- the number that a file is refused with, whatever output is lent, or 0
unfoldable pub file_number : Direction → List ℕ → ℕ
file_number direction file = refusal (file_rows (from_form direction) (to_form direction) file)

-- its records in the other form; "nothing written" if it is refused
unfoldable pub file_moved : Direction → List ℕ → List ℕ
file_moved direction file = cond (eqb (file_number direction file) 0) (moved_file (from_form direction) (to_form direction) file) []

-- the number of a file from those of its two parts: "15 .., then 8 .., then 16 .."
unfoldable pub earlier : ℕ → ℕ → ℕ
earlier a b =
    refusal ((15, eqb a 15 || eqb b 15) ∷ (8, eqb a 8 || eqb b 8) ∷ (16, eqb a 16 || eqb b 16) ∷ [])
