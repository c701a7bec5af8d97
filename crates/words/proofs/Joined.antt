-- Pieces that are put one after the other. Assumes nothing.
use mathlib.Core.Path.{◌≡◌, sym}
use mathlib.Core.List.{List, [], ◌∷◌, ◌++◌, append_assoc, append-nil}
use Prim.Native.Nat.{ℕ}
use Rattle.words.specs.Words.{joined}

pub joined_more : (a p : List ℕ) (ps : List (List ℕ)) → a ++ joined (p ∷ ps) ≡ (a ++ p) ++ joined ps
unfolding joined
joined_more a p ps = sym (append_assoc a p (joined ps))

pub joined_none : (a : List ℕ) → a ++ joined [] ≡ a
unfolding joined
joined_none a = append-nil a

pub ruleset pieces = (joined_more, joined_none)
