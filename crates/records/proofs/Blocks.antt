-- A file that is moved block by block: a block's number and bytes, and those of the file from its parts'. Assumes nothing.
use mathlib.Core.Path.{◌≡◌, refl, sym, ap, ◌∙◌}
use mathlib.Core.Bool.{Bool, true, false, cond, not, ◌||◌}
use mathlib.Core.List.{List, [], ◌∷◌, ◌++◌, append_assoc}
use Prim.Native.Nat.{ℕ, zero, suc, ◌*◌, ◌%◌, ◌≤◌, ◌<◌}
use native.Mathlib.Nat.{mod-add-mod, zero-add}
use native.Mathlib.Omega.{arith}
use lib.Dec.{eqb, lit<}
use lib.ListN.{length, take, length-append}
use lib.Seq.{take-append-le, drop-append-le}
use borrow.Author.Tests.{ne_eqb, le-ltb, not-false, eqb-true}
use Rattle.std.specs.Prelude.{Result, Ok, Err}
use Rattle.model.specs.Calls.{refusal}
use Rattle.model.specs.Writes.{WriteResult, write_unless}
use Rattle.model.specs.Moves.{pieces, records_of, some_record, each_record}
use Rattle.model.specs.RecordMoves.{old_form, new_form, moved_file, file_rows, move_rows, move_call}
use Rattle.model.specs.Replies.{of_write}
use Rattle.model.specs.Refusals.{refusal_number}
use Rattle.model.specs.declared.Refusal.{Refusal}
use Rattle.model.proofs.Numbers.{no_rows, passed_over, given_by}
use Rattle.model.proofs.Moves.{first_record, no_record, by_records, wrote_is}
use Rattle.model.proofs.RecordMoves.{moved_size}
use Rattle.records.specs.Blocks.{from_form, to_form, file_number, file_moved, earlier}
use Rattle.records.specs.declared.Direction.{Direction}

-- ---- a block: an output that is twice as long is not short

not_short : (part wrong long short : Bool) → (part ≡ false → short ≡ false)
    → refusal ((15, part) ∷ (8, wrong) ∷ (16, long) ∷ (13, short) ∷ []) ≡ refusal ((15, part) ∷ (8, wrong) ∷ (16, long) ∷ [])
unfolding refusal
not_short true wrong long short h = refl
not_short false true long short h = refl
not_short false false true short h = refl
not_short false false false short h = rw (h refl)

module _ (file output : List ℕ) (room : 2 * length file ≤ length output) where
  has_room : (direction : Direction) → length file % (from_form direction).size ≡ 0
      → length (moved_file (from_form direction) (to_form direction) file) ≤ length output
  has_room Direction.Widen whole = omega (arith, moved_size old_form new_form file (lit< tt) (lit< tt) whole)
  has_room Direction.Narrow whole = omega (arith, moved_size new_form old_form file (lit< tt) (lit< tt) whole)

  module _ (direction : Direction) where
    is_whole : not (eqb (length file % (from_form direction).size) 0) ≡ false → length file % (from_form direction).size ≡ 0
    is_whole e = eqb-true _ _ (not-false _ e)

    number_is : refusal (move_rows (from_form direction) (to_form direction) file output) ≡ file_number direction file
    unfolding move_rows file_rows file_number
    number_is = not_short _ _ _ _ (λ e. le-ltb _ _ (has_room direction (is_whole e)))

    by_number : (n : ℕ) (bytes : List ℕ) (r : WriteResult) → r ≡ write_unless n bytes output
        → (r.number ≡ n) × (r.length ≤ length r.output) × (take r.length r.output ≡ cond (eqb n 0) bytes [])
    unfolding write_unless
    by_number zero bytes r e = rw e (refl, rw length-append (omega arith), wrote_is bytes output)
    by_number (suc n) bytes r e = rw (e, ne_eqb (suc n) 0 (λ z. omega arith)) (refl, omega arith, refl)

    block_is : (r : WriteResult) → r ≡ move_call (from_form direction) (to_form direction) file output
        → (r.number ≡ file_number direction file) × (r.length ≤ length r.output) × (take r.length r.output ≡ file_moved direction file)
    unfolding move_call file_moved
    block_is r e =
        by_number (file_number direction file) (moved_file (from_form direction) (to_form direction) file) r
        (e ∙ ap (λ n. write_unless n (moved_file (from_form direction) (to_form direction) file) output) number_is)

    -- what `take_block` answers, from the reply of the move
    module _ (reply : Result ℕ Refusal) (after : List ℕ) (e : of_write after reply ≡ move_call (from_form direction) (to_form direction) file output) (number : ℕ) where
      abbrev Answered : ℕ → ℕ → Type 0
      Answered n w = (n ≡ earlier number (file_number direction file)) × ((w ≤ length after) × (take w after ≡ file_moved direction file))

      pub block_written : (w : ℕ) → reply ≡ Ok w → (n : ℕ) → n ≡ earlier number 0 → Answered n w
      block_written w q n h =
          let b = block_is _ (sym (ap (of_write after) q) ∙ e) in
          (h ∙ ap (earlier number) b.0, (b.1, b.2))

      pub block_refused : (r : Refusal) → reply ≡ Err r → (n : ℕ) → n ≡ earlier number (refusal_number r) → Answered n 0
      block_refused r q n h =
          let b = block_is _ (sym (ap (of_write after) q) ∙ e) in
          (h ∙ ap (earlier number) b.0, (b.1, b.2))

-- ---- a file in two parts

module _ (a b : ℕ) where
  pub earlier_15 : (p : Bool) → p ≡ (eqb a 15 || eqb b 15) → p ≡ true → 15 ≡ earlier a b
  unfolding earlier
  earlier_15 p e t = sym (given_by 15 _ _ (sym e ∙ t))

  module _ (p : Bool) (e : p ≡ (eqb a 15 || eqb b 15)) (np : p ≡ false) (q : Bool) (f : q ≡ (eqb a 8 || eqb b 8)) where
    pub earlier_8 : q ≡ true → 8 ≡ earlier a b
    unfolding earlier
    earlier_8 t = sym (passed_over 15 _ _ (sym e ∙ np) ∙ given_by 8 _ _ (sym f ∙ t))

    module _ (nq : q ≡ false) (r : Bool) (g : r ≡ (eqb a 16 || eqb b 16)) where
      pub earlier_16 : r ≡ true → 16 ≡ earlier a b
      unfolding earlier
      earlier_16 t = sym (passed_over 15 _ _ (sym e ∙ np) ∙ passed_over 8 _ _ (sym f ∙ nq) ∙ given_by 16 _ _ (sym g ∙ t))

      pub earlier_0 : r ≡ false → 0 ≡ earlier a b
      unfolding earlier
      earlier_0 t = sym (passed_over 15 _ _ (sym e ∙ np) ∙ passed_over 8 _ _ (sym f ∙ nq) ∙ passed_over 16 _ _ (sym g ∙ t) ∙ no_rows)

-- the number of the whole: a is of whole records
earlier_is : (part x y u v : Bool)
    → refusal ((15, part) ∷ (8, x || u) ∷ (16, y || v) ∷ [])
    ≡ earlier (refusal ((15, false) ∷ (8, x) ∷ (16, y) ∷ [])) (refusal ((15, part) ∷ (8, u) ∷ (16, v) ∷ []))
unfolding refusal earlier
earlier_is true true y u v = refl
earlier_is true false true u v = refl
earlier_is true false false u v = refl
earlier_is false true y true v = refl
earlier_is false true y false true = refl
earlier_is false true y false false = refl
earlier_is false false true true v = refl
earlier_is false false true false true = refl
earlier_is false false true false false = refl
earlier_is false false false true v = refl
earlier_is false false false false true = refl
earlier_is false false false false false = refl

some_append : (test : List ℕ → Bool) (xs ys : List (List ℕ)) → some_record test (xs ++ ys) ≡ (some_record test xs || some_record test ys)
unfolding some_record
some_append test [] ys = refl
some_append test (x ∷ xs) ys = rw (some_append test xs ys) (or_assoc (test x) (some_record test xs) (some_record test ys))
  where
    or_assoc : (a b c : Bool) → (a || (b || c)) ≡ ((a || b) || c)
    or_assoc true b c = refl
    or_assoc false b c = refl

each_append : (move : List ℕ → List ℕ) (xs ys : List (List ℕ)) → each_record move (xs ++ ys) ≡ each_record move xs ++ each_record move ys
unfolding each_record
each_append move [] ys = refl
each_append move (x ∷ xs) ys = rw (each_append move xs ys) (sym (append_assoc (move x) (each_record move xs) (each_record move ys)))

records_append : (size : ℕ) → 0 < size → (b a : List ℕ) → length a % size ≡ 0 → records_of size (a ++ b) ≡ records_of size a ++ records_of size b
records_append size p b =
    by_records (λ a. records_of size (a ++ b) ≡ records_of size a ++ records_of size b) size p
    (rw (no_record size [] p))
    (λ a h ih.
    first_record size (a ++ b) p (rw length-append (omega arith))
    ∙ rw (take-append-le size a b h, drop-append-le size a b h, ih, first_record size a p h))

-- "cut anywhere" between two records: the number of the file is the earlier one of its parts', and its records are theirs
module _ (direction : Direction) (a b : List ℕ) (whole : length a % (from_form direction).size ≡ 0) where
  sized : (direction : Direction) → 0 < (from_form direction).size
  sized Direction.Widen = lit< tt
  sized Direction.Narrow = lit< tt

  joined : records_of (from_form direction).size (a ++ b) ≡ records_of (from_form direction).size a ++ records_of (from_form direction).size b
  joined = records_append (from_form direction).size (sized direction) b a whole

  part : length (a ++ b) % (from_form direction).size ≡ length b % (from_form direction).size
  part =
      let size = (from_form direction).size in
      ap (λ n. n % size) (length-append a b) ∙ sym (mod-add-mod (length a) size (length b)) ∙ rw (whole, zero-add)

  pub number_cut : file_number direction (a ++ b) ≡ earlier (file_number direction a) (file_number direction b)
  unfolding file_number file_rows
  number_cut =
      rw (part, joined, some_append, some_append, whole)
      (earlier_is _ _ _ _ _)

  pub moved_cut : moved_file (from_form direction) (to_form direction) (a ++ b)
      ≡ moved_file (from_form direction) (to_form direction) a ++ moved_file (from_form direction) (to_form direction) b
  unfolding moved_file
  moved_cut = rw (joined, each_append)

-- a file without a byte is not refused
pub number-none : (direction : Direction) → file_number direction [] ≡ 0
unfolding file_number file_rows records_of pieces some_record refusal
number-none Direction.Widen = refl
number-none Direction.Narrow = refl
