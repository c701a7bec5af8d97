-- Laws of a file that comes block by block. Assumes nothing.
use Rattle.std.proofs.Common.{◌≡◌, ℕ, ◌+◌, ◌%◌, List, [], ◌++◌, length, sym, refl, ap, ◌∙◌, arith, length-append}
use Rattle.records.specs.Blocks.{from_form, file_number, earlier}
use Rattle.records.specs.declared.Direction.{Direction}
use Rattle.records.proofs.Blocks.{number_cut, number-none}
use Rattle.convert.specs.Passes.{FileCame}

-- the blocks so far, all of them full, are of whole records, and this is their number
abbrev pub SoFar : Direction → ℕ → Type 0
SoFar direction number = (bytes : List ℕ) × (length bytes % (from_form direction).size ≡ 0) × (number ≡ file_number direction bytes)

pub from_nothing : (direction : Direction) → SoFar direction 0
from_nothing Direction.Widen = ([], refl, sym (number-none Direction.Widen))
from_nothing Direction.Narrow = ([], refl, sym (number-none Direction.Narrow))

module _ (direction : Direction) (number k : ℕ) (block : List ℕ) (s : SoFar direction number) (e : k ≡ earlier number (file_number direction block)) where
  same : k ≡ file_number direction (s.0 ++ block)
  same = e ∙ ap (λ m. earlier m (file_number direction block)) s.2 ∙ sym (number_cut direction s.0 block s.1)

  -- with one block more
  pub came : FileCame direction k
  came = (s.0 ++ block, same)

  -- one that is full
  pub came_full : length block ≡ 65536 → SoFar direction k
  came_full l = (s.0 ++ block, whole direction s.1, same)
    where
      long : length (s.0 ++ block) ≡ length s.0 + 65536
      long = length-append s.0 block ∙ ap (λ m. length s.0 + m) l

      whole : (direction : Direction) → length s.0 % (from_form direction).size ≡ 0 → length (s.0 ++ block) % (from_form direction).size ≡ 0
      whole Direction.Widen w = rw long (omega arith)
      whole Direction.Narrow w = rw long (omega arith)
