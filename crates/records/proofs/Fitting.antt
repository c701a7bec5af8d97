-- The record that is put in the other form. Assumes nothing.
use mathlib.Core.Path.{◌≡◌, sym, ◌∙◌}
use mathlib.Core.List.{List, ◌++◌}
use Prim.Native.Nat.{ℕ, ◌-◌, min}
use native.Mathlib.Decide.{dec_lt}
use native.Mathlib.Omega.{arith}
use lib.ListN.{length, take}
use lib.Seq.{take_all, length-take-le}
use Rattle.model.specs.Bytes.{zeros}
use Rattle.model.specs.RecordMoves.{fitted}

-- the bytes that both forms have room for, and zeros after them
fitted-kept : (room kept : ℕ) (entry : List ℕ) → kept ≡ min (length entry) room → fitted room entry ≡ take kept entry ++ zeros (room - kept)
unfolding fitted
fitted-kept room kept entry k = elim (dec_lt room (length entry)) [
  | yes h ↦
      let e : kept ≡ room = omega arith in
      let z : room - length entry ≡ room - room = omega arith in
      rw (z, e)
  | no h ↦
      let e : kept ≡ length entry = omega arith in
      rw (e, take_all room entry (omega arith), take_all (length entry) entry (omega arith))
]

pub put_is : (entry part ys : List ℕ) (kept : ℕ) → kept ≡ min (length entry) (length part)
    → ys ≡ take kept entry ++ zeros (length part - length (take kept entry)) → ys ≡ fitted (length part) entry
put_is entry part ys kept k e =
    e ∙ rw (length-take-le kept entry (omega arith)) (sym (fitted-kept (length part) kept entry k))
