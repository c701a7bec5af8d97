-- Laws of a test of each record of a file. Assumes nothing.
use mathlib.Core.Path.{◌≡◌, sym, ap, ◌∙◌}
use mathlib.Core.Bool.{Bool, true, false}
use mathlib.Core.List.{List, ◌∷◌, ◌++◌}
use Prim.Native.Nat.{ℕ, ◌≤◌, ◌<◌}
use native.Mathlib.Omega.{arith}
use lib.ListN.{length, length-append}
use lib.Seq.{take_at, drop_at}
use Rattle.model.specs.Moves.{records_of, some_record}
use Rattle.model.proofs.Moves.{first_record, no_record}

-- a record, and those after it
pub cut : (size : ℕ) (bytes entry rest : List ℕ) → 0 < size → bytes ≡ entry ++ rest → length entry ≡ size
    → records_of size bytes ≡ entry ∷ records_of size rest
cut size bytes entry rest p e l =
    let h : size ≤ length bytes = rw (e, length-append, l) (omega arith) in
    first_record size bytes p h ∙ rw (e, take_at entry rest size l, drop_at entry rest size l)

module _ (size : ℕ) (p : 0 < size) (holds : List ℕ → Bool) (file rest : List ℕ)
    (same : some_record holds (records_of size rest) ≡ some_record holds (records_of size file)) where
  pub none_holds : length rest < size → false ≡ some_record holds (records_of size file)
  unfolding some_record
  none_holds h = sym (ap (some_record holds) (no_record size rest h)) ∙ same

  module _ (entry next : List ℕ) (e : rest ≡ entry ++ next) (l : length entry ≡ size) (b : Bool) (told : b ≡ holds entry) where
    pub one_holds : b ≡ true → true ≡ some_record holds (records_of size file)
    unfolding some_record
    one_holds t = rw (← same, cut size rest entry next p e l, ← told, t)

    pub none_so_far : b ≡ false → some_record holds (records_of size next) ≡ some_record holds (records_of size file)
    unfolding some_record
    none_so_far f = sym (rw (cut size rest entry next p e l, ← told, f)) ∙ same
