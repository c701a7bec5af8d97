-- What the contracts of `input` cite. Assumes nothing.
use Rattle.std.specs.Prelude.{◌≡◌, List, ℕ, ◌≤◌, length, take, Result, Ok, Err}

-- the first n bytes of a list are n
abbrev pub IsPrefixLen : ℕ → List ℕ → Type 0
IsPrefixLen n xs = (n ≤ length xs) × (n ≡ length (take n xs))

-- the buffer is filled up to n, that is no less than before, and no more than it has; nothing is said of a read that failed
abbrev pub FilledTo : {E : Type 0} → ℕ → Result ℕ E → List ℕ → Type 0
FilledTo at (Ok n) buffer = (at ≤ n) × IsPrefixLen n buffer
FilledTo at (Err error) buffer = Unit {0}
