-- Laws of bytes written over the start of a list, and of a part of a list that is lent and comes back. Assumes nothing.
use mathlib.Core.Path.{◌≡◌, ap, ◌∙◌}
use mathlib.Core.List.{List, [], ◌++◌, append_assoc, append-nil}
use Prim.Native.Nat.{ℕ, ◌+◌, ◌-◌, ◌≤◌}
use native.Mathlib.Omega.{arith}
use lib.ListN.{length, take, drop, length-replicate, length-drop, length-append, drop_of_length-le}
use lib.Seq.{take_all, drop-drop, take_at, drop_at, length-take-le}
use borrow.Rule.Slice.PartMut.{put_mid}
use Rattle.model.specs.Bytes.{zeros}

-- ---- a part from a on: what is lent, and the whole list once ys came back

part_is : (a n : ℕ) (xs : List ℕ) → length xs ≤ a + n → take n (drop a xs) ≡ drop a xs
part_is a n xs l = take_all n (drop a xs) (rw length-drop (omega arith))

part_back : (a n : ℕ) (xs ys : List ℕ) → length xs ≤ a + n → put_mid a n xs ys ≡ take a xs ++ ys
part_back a n xs ys l =
    let l : length (drop a xs) ≤ n = rw length-drop (omega arith) in
    let e : drop n (drop a xs) ≡ [] = drop_of_length-le (drop a xs) l in
    rw (e, append-nil)

-- bytes are placed from a on
pub placed-from : (a n : ℕ) (xs bytes ys : List ℕ) → length xs ≡ a + n → ys ≡ bytes ++ drop (length bytes) (take n (drop a xs))
    → put_mid a n xs ys ≡ take a xs ++ bytes ++ drop (a + length bytes) xs
placed-from a n xs bytes ys l e =
    part_back a n xs ys (omega arith) ∙ rw (e, part_is a n xs (omega arith), drop-drop (length bytes) a xs, append_assoc)

-- the first a bytes are cleared, and the part from there on is filled
pub filled-from : (a n : ℕ) (xs program cleared ys : List ℕ) → length xs ≡ a + n
    → cleared ≡ zeros (length (take a xs))
    → ys ≡ program ++ zeros (length (take n (drop a (cleared ++ drop a xs))) - length program)
    → put_mid a n (cleared ++ drop a xs) ys ≡ zeros a ++ program ++ zeros (n - length program)
filled-from a n xs program cleared ys l hc hy =
    let h : cleared ≡ zeros a = hc ∙ ap zeros (length-take-le a xs (omega arith)) in
    let la : length cleared ≡ a = ap length h ∙ length-replicate a 0 in
    let ln : length (drop a xs) ≡ n = length-drop a xs ∙ omega arith in
    let lw : length (cleared ++ drop a xs) ≤ a + n = rw (length-append, la, ln) (omega arith) in
    part_back a n (cleared ++ drop a xs) ys lw
    ∙ rw (hy, part_is a n (cleared ++ drop a xs) lw, take_at cleared (drop a xs) a la, drop_at cleared (drop a xs) a la, ln, h, append_assoc)
