-- Laws of the tests of a record, and of the record that is put. Assumes nothing.
use mathlib.Core.Path.{◌≡◌, refl, sym, ap, ◌∙◌}
use mathlib.Core.Bool.{Bool, true, false, cond, not, ◌&&◌}
use mathlib.Core.List.{List, [], ◌∷◌, ◌++◌, append_assoc, append-nil}
use Prim.Native.Nat.{ℕ, zero, suc, ◌+◌, ◌-◌, ◌*◌, ◌≤◌}
use native.Mathlib.Omega.{arith}
use lib.Dec.{eqb}
use lib.ListN.{length, get_or, take, drop, length-append, length-drop, drop_of_length-le}
use lib.Seq.{take_all, take_at, length-take-le}
use borrow.Author.Tests.{ne_eqb, lt-ltb, not-false, not-true}
use borrow.Rule.Slice.PartMut.{put_mid}
use Rattle.std.specs.List.{list_any}
use Rattle.model.specs.Bytes.{zeros, word}
use Rattle.model.specs.Machine.{start}
use Rattle.model.specs.Calls.{all_zero}
use Rattle.model.specs.Admission.{sheet_record}
use Rattle.model.specs.Moves.{old_record, mark_byte, wrong_old, wrong_new, stays_new, widened, narrowed}
use Rattle.model.proofs.Bytes.{number_two}
use Rattle.buffers.proofs.Parts.{placed-from}

-- ---- bytes that are all zero

pub some_not_zero : (bytes : List ℕ) → list_any (λ byte. not (eqb byte 0)) bytes ≡ not (all_zero bytes)
some_not_zero [] = refl
some_not_zero (zero ∷ bytes) = some_not_zero bytes
some_not_zero (suc b ∷ bytes) = rw (ne_eqb (suc b) 0 (λ z. omega arith))

and_assoc : (a b c : Bool) → (a && (b && c)) ≡ ((a && b) && c)
and_assoc true b c = refl
and_assoc false b c = refl

zero_append : (a b : List ℕ) → all_zero (a ++ b) ≡ (all_zero a && all_zero b)
zero_append [] b = refl
zero_append (x ∷ a) b = rw (zero_append a b) (and_assoc (eqb x 0) (all_zero a) (all_zero b))

-- a part that goes to the end
rest_is : (a : ℕ) (bytes : List ℕ) → take (length bytes - a) (drop a bytes) ≡ drop a bytes
rest_is a bytes = take_all (length bytes - a) (drop a bytes) (rw length-drop (omega arith))

-- ---- the tests

-- a record that is not marked is wrong where a byte but the program byte is not 0
unmarked_is : (bytes : List ℕ) → old_record ≤ length bytes → (mark_byte bytes ≡ 1 → ⊥)
    → wrong_old bytes ≡ not (all_zero (take 3 bytes ++ drop 4 bytes))
unfolding wrong_old
unmarked_is [] l h = absurd (omega arith)
unmarked_is (zero ∷ bytes) l h = refl
unmarked_is (suc zero ∷ bytes) l h = absurd (h refl)
unmarked_is (suc (suc m) ∷ bytes) l h =
    rw (lt-ltb 1 (suc (suc m)) (omega arith), ne_eqb (suc (suc m)) 0 (λ e. omega arith))

module _ (bytes : List ℕ) where
  pub old-marked : mark_byte bytes ≡ 1 → false ≡ wrong_old bytes
  unfolding wrong_old
  old-marked e = rw e

  module _ (l : old_record ≤ length bytes) (h : mark_byte bytes ≡ 1 → ⊥) (b : Bool) (e : b ≡ not (all_zero (take 3 bytes))) where
    is : wrong_old bytes ≡ not (all_zero (take 3 bytes) && all_zero (drop 4 bytes))
    is = unmarked_is bytes l h ∙ ap not (zero_append (take 3 bytes) (drop 4 bytes))

    pub old_before : b ≡ true → true ≡ wrong_old bytes
    old_before t = rw (is, not-true (all_zero (take 3 bytes)) (sym e ∙ t))

    pub old_after : b ≡ false → (c : Bool) → c ≡ not (all_zero (take (length bytes - 4) (drop 4 bytes))) → c ≡ wrong_old bytes
    old_after f c g = g ∙ rw (rest_is 4 bytes, is, not-false (all_zero (take 3 bytes)) (sym e ∙ f))

  module _ (b : Bool) (e : b ≡ wrong_old bytes) where
    pub new_wrong : b ≡ true → true ≡ wrong_new bytes
    unfolding wrong_new
    new_wrong t = rw (← e, t)

    module _ (f : b ≡ false) where
      pub new-unmarked : (mark_byte bytes ≡ 1 → ⊥) → false ≡ wrong_new bytes
      unfolding wrong_new
      new-unmarked h = rw (← e, f, ne_eqb (mark_byte bytes) 1 h)

      module _ (m : mark_byte bytes ≡ 1) (q : ℕ) (qe : q ≡ get_or bytes 4 0 * 256 + get_or bytes 5 0) where
        pub new-routine : q ≡ 0 → true ≡ wrong_new bytes
        unfolding wrong_new
        new-routine z = rw (← e, f, m, number_two (get_or bytes 4 0) (get_or bytes 5 0), ← qe, z)

        pub new_last : (q ≡ 0 → ⊥) → (c : Bool) → c ≡ not (all_zero (take (length bytes - 6) (drop 6 bytes))) → c ≡ wrong_new bytes
        unfolding wrong_new
        new_last n c g = g ∙ rw (rest_is 6 bytes, ← e, f, m, number_two (get_or bytes 4 0) (get_or bytes 5 0), ← qe, ne_eqb q 0 n)

  pub stays_unmarked : (mark_byte bytes ≡ 1 → ⊥) → false ≡ stays_new bytes
  unfolding stays_new
  stays_unmarked h = rw (ne_eqb (mark_byte bytes) 1 h)

  pub stays_marked : mark_byte bytes ≡ 1 → (q : ℕ) → q ≡ get_or bytes 4 0 * 256 + get_or bytes 5 0 → not (eqb q start) ≡ stays_new bytes
  unfolding stays_new
  stays_marked m q qe = rw (m, number_two (get_or bytes 4 0) (get_or bytes 5 0), qe)

-- ---- the record that is put: its four bytes, then the routine and the last pair

widened_is : (bytes : List ℕ) → widened bytes ≡ bytes ++ (cond (eqb (mark_byte bytes) 1) 1 0 ∷ 0 ∷ 0 ∷ 0 ∷ [])
unfolding widened word
widened_is bytes = by (eqb (mark_byte bytes) 1)
  where
    by : (t : Bool) → bytes ++ cond t (1 ∷ 0 ∷ []) (zeros 2) ++ zeros 2 ≡ bytes ++ (cond t 1 0 ∷ 0 ∷ 0 ∷ 0 ∷ [])
    by true = rw append_assoc
    by false = rw append_assoc

pub put_is : (bytes part placed ys : List ℕ) (r : ℕ) → length bytes ≡ old_record → length part ≡ sheet_record
    → placed ≡ bytes ++ drop (length bytes) part
    → r ≡ cond (eqb (mark_byte bytes) 1) 1 0
    → ys ≡ (r ∷ 0 ∷ 0 ∷ 0 ∷ []) ++ drop 4 (take (length placed - 4) (drop 4 placed))
    → put_mid 4 (length placed - 4) placed ys ≡ widened bytes
put_is bytes part placed ys r l p8 p e f =
    let front : take 4 placed ≡ bytes = rw p (take_at bytes _ 4 l) in
    let long : length placed ≡ sheet_record = rw (p, length-append, l, length-drop) (omega (arith, p8)) in
    let short : length placed ≤ sheet_record = omega (arith, long) in
    let back : drop sheet_record placed ≡ [] = drop_of_length-le placed short in
    placed-from 4 (length placed - 4) placed (r ∷ 0 ∷ 0 ∷ 0 ∷ []) ys (omega (arith, long)) f
    ∙ rw (front, back, e, widened_is bytes) (append-nil _)

-- the first four bytes are put over the whole part
pub four_put : (bytes part ys : List ℕ) → length bytes ≡ sheet_record → length part ≡ old_record
    → ys ≡ take old_record bytes ++ drop (length (take old_record bytes)) part → ys ≡ narrowed bytes
unfolding narrowed
four_put bytes part ys l p e =
    let n : length (take old_record bytes) ≡ old_record = length-take-le old_record bytes (omega (arith, l)) in
    let short : length part ≤ old_record = omega (arith, p) in
    let rest : drop old_record part ≡ [] = drop_of_length-le part short in
    e ∙ rw (n, rest) (append-nil _)
