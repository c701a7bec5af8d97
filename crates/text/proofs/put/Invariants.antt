-- `text::put` meets its contract. The loop's invariant: so many bytes of the text stand behind what was there. Assumes nothing.
use mathlib.Core.Path.{◌≡◌}
use mathlib.Core.List.{◌++◌}
use Prim.Native.Nat.{◌+◌}
use lib.ListN.{take}
use Rattle.arrayvec.specs.ArrayVec.{array_vec_len}
use Rattle.text.proofs.put.Given as goal

abbrev pub invariant-loop-byte : goal.invariant-loop-byte
invariant-loop-byte g l =
    (array_vec_len l.out ≡ array_vec_len l.initial.out + l.byte-index) × (l.out.items ≡ l.initial.out.items ++ take l.byte-index l.text)
