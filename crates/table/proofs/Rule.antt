-- The rule of the table at each of its entries, from one test over the whole of it. Assumes nothing.
use mathlib.Core.Path.{◌≡◌, ◌∙◌}
use mathlib.Core.Bool.{Bool}
use mathlib.Core.List.{List}
use Prim.Native.Nat.{ℕ, ◌+◌, ◌*◌, ◌/◌, ◌%◌}
use native.Mathlib.Omega.{arith}
use lib.Dec.{T, eqb, eqb→eq}
use lib.ListN.{length, get_or}
use Rattle.model.specs.Instruction.{row_of, RowTable}
use Rattle.model.proofs.EveryByte.{below, at}

-- entry k is the number that the row of byte k / 5 has in column k % 5
abbrev pub right : List ℕ → ℕ → Bool
right entries k = eqb (get_or entries k 0) (get_or (row_of (k / 5)) (k % 5) 0)

pub by_test : (entries : List ℕ) → length entries ≡ 1280 → T (below (right entries) 1280) → RowTable entries
by_test entries size test =
    record {
      size = size;
      entry = λ byte k h g.
          let q : (byte * 5 + k) / 5 ≡ byte = omega arith in
          let r : (byte * 5 + k) % 5 ≡ k = omega arith in
          eqb→eq _ _ (at (right entries) 1280 test (byte * 5 + k) (omega arith)) ∙ rw (q, r);
    }
