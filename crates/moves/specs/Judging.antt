-- What a test of a record answers, and what a move of one puts. Assumes nothing.
use Rattle.std.specs.Prelude.{◌≡◌, Bool, List, ℕ, ⊤, length}
use Rattle.std.specs.Borrow.{Bor, MutBor}

-- the test, which may give these answers, says of each record of this size whether it holds
abbrev pub Tells : ℕ → (Bor (List ℕ) → Bool → Type 0) → (List ℕ → Bool) → Type 0
Tells size gives holds = (entry : Bor (List ℕ)) (answer : Bool) → length entry.now ≡ size → gives entry answer → answer ≡ holds entry.now

-- the change, which may leave the part that is lent to it like this, puts each record of this size there in its other form, of so many bytes
abbrev pub Puts : ℕ → ℕ → (Bor (List ℕ) → MutBor (List ℕ) → ⊤ → MutBor (List ℕ) → Type 0) → (List ℕ → List ℕ) → Type 0
Puts size room leaves changed =
    (entry : Bor (List ℕ)) (part after : MutBor (List ℕ)) → length entry.now ≡ size → length part.now ≡ room → leaves entry part tt after
    → after.now ≡ changed entry.now
