-- The operations 08 to 0B and 18 to 1E by their numbers in their groups, in the order of document 01's table.
-- Assumes nothing.
use Rattle.std.specs.Prelude.{ℕ, [], ◌∷◌, slice_index_or}
use Rattle.model.specs.Instruction.{Comparison, Arithmetic}
use Rattle.model.specs.Instruction.Comparison.{EQU, NEQ, GTH, LTH}
use Rattle.model.specs.Instruction.Arithmetic.{ADD, SUB, MUL, DIV, AND, ORA, EOR}

-- 08 to 0B; the last one for every further number
abbrev pub comparison_at : ℕ → Comparison
comparison_at o = slice_index_or (EQU ∷ NEQ ∷ GTH ∷ LTH ∷ []) o LTH

-- 18 to 1E; the last one for every further number
abbrev pub arithmetic_at : ℕ → Arithmetic
arithmetic_at o = slice_index_or (ADD ∷ SUB ∷ MUL ∷ DIV ∷ AND ∷ ORA ∷ EOR ∷ []) o EOR
