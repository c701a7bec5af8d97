-- What a check that refuses nothing has found. Assumes nothing.
use Rattle.std.specs.Prelude.{◌≡◌, List, ℕ, length}
use Rattle.model.specs.Machine.{memory_size, page_size, stack_size}

-- the four buffers have their lengths
abbrev pub Lengths : List ℕ → List ℕ → List ℕ → List ℕ → Type 0
Lengths memory devices work ret =
    (length memory ≡ memory_size) × (length devices ≡ page_size) × (length work ≡ stack_size) × (length ret ≡ stack_size)
