-- Laws of the test of a frame record, whose bytes past the data are joined by OR. Assumes nothing.
use mathlib.Core.Path.{◌≡◌, refl, sym, ◌∙◌}
use mathlib.Core.Bool.{Bool, true, false, ◌&&◌}
use mathlib.Core.List.{List}
use Prim.Native.Nat.{ℕ, zero, suc, ◌+◌, ◌-◌, ◌≤◌, ◌<◌}
use native.Mathlib.Numerals.{add-one}
use native.Mathlib.Omega.{arith}
use lib.Bits.{bit_or, or_zero_l, or_add_and, and_le_r}
use lib.Dec.{eqb}
use lib.ListN.{length, get_or, take, drop, length-drop, drop_of_length-le}
use lib.Seq.{drop-cons, take_all}
use borrow.Author.Tests.{ne_eqb, le-leb, lt-leb}
use Rattle.model.specs.Calls.{all_zero, well_formed}

and_assoc : (a b c : Bool) → (a && (b && c)) ≡ ((a && b) && c)
and_assoc true b c = refl
and_assoc false b c = refl

and_true : (a : Bool) → (a && true) ≡ a
and_true true = refl
and_true false = refl

-- the OR of two numbers is 0 just where both are
both_zero : (a b : ℕ) → eqb (bit_or a b) 0 ≡ (eqb a 0 && eqb b 0)
both_zero zero b = rw or_zero_l
both_zero (suc a) b =
    let f : eqb (suc a) 0 ≡ false = ne_eqb (suc a) 0 (λ (e : suc a ≡ 0). omega arith) in
    let g : eqb (bit_or (suc a) b) 0 ≡ false = ne_eqb (bit_or (suc a) b) 0 (λ (e : bit_or (suc a) b ≡ 0). omega (arith, or_add_and (suc a) b, and_le_r (suc a) b)) in
    rw (f, g)

-- one byte more of the bytes past the data
pub zero_so_far : (tail : List ℕ) (i seen : ℕ) → i < length tail → (eqb seen 0 && all_zero (drop i tail)) ≡ all_zero tail
    → (eqb (bit_or seen (get_or tail i 0)) 0 && all_zero (drop (i + 1) tail)) ≡ all_zero tail
zero_so_far tail i seen h e =
    rw (both_zero seen (get_or tail i 0), add-one) (sym (and_assoc (eqb seen 0) (eqb (get_or tail i 0) 0) (all_zero (drop (suc i) tail))) ∙ rw (drop-cons tail i 0 h) at e)

-- from a place to the end
pub tail_is : (i : ℕ) (frame : List ℕ) → take (length frame - i) (drop i frame) ≡ drop i frame
tail_is i frame = take_all (length frame - i) (drop i frame) (rw length-drop (omega arith))

-- all of them
pub all_seen : (frame tail : List ℕ) (most n i seen : ℕ) → n ≡ get_or frame 0 0 → n ≤ most → tail ≡ drop (2 + n) frame → length tail ≤ i
    → (eqb seen 0 && all_zero (drop i tail)) ≡ all_zero tail → eqb seen 0 ≡ well_formed most frame
unfolding well_formed
all_seen frame tail most n i seen hn h t l e =
    rw (← hn, le-leb n most h, ← t) (sym (and_true (eqb seen 0)) ∙ rw (drop_of_length-le tail l) at e)

pub too_long_lem : (frame : List ℕ) (most n : ℕ) → n ≡ get_or frame 0 0 → most < n → false ≡ well_formed most frame
unfolding well_formed
too_long_lem frame most n hn h = rw (← hn, lt-leb n most h)
