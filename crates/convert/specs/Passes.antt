-- What the contracts of a pass over a file cite. No contract can say which bytes a read brings: it says that some came, and what they come
-- to. Assumes nothing.
use Rattle.std.specs.Prelude.{◌≡◌, ℕ, List, Option, Some, None}
use Rattle.records.specs.Blocks.{file_number}
use Rattle.records.specs.declared.Direction.{Direction}
use Rattle.convert.specs.declared.Passed.{Passed}

-- some bytes came in all, and this is the number of the file that they are
abbrev pub FileCame : Direction → ℕ → Type 0
FileCame direction number = (bytes : List ℕ) × (number ≡ file_number direction bytes)

abbrev pub PassOf : Direction → Option Passed → Type 0
PassOf direction (Some passed) = FileCame direction passed.number
PassOf direction None = Unit {0}
