-- What the contracts of the reading of the record file cite. No contract can say which bytes a read brings: it says that some
-- came, and what they come to. Assumes nothing.
use Rattle.std.specs.Prelude.{◌≡◌, List, ◌++◌, ℕ}
use Rattle.model.specs.Machine.{State}
use Rattle.blocks.specs.Frames.{Judged, judged}

-- the most that is read at a time
abbrev pub block_size : ℕ
block_size = 65536

-- some bytes came, none perhaps, behind those that waited
abbrev pub Came : List ℕ → State → Judged → Type 0
Came waited s j = (came : List ℕ) × (j ≡ judged (waited ++ came) s)

-- some bytes came in all
abbrev pub CameInAll : State → State → Type 0
CameInAll s t = (bytes : List ℕ) × (t ≡ (judged bytes s).machine)
