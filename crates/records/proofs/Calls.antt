-- Laws of the call in both directions: one for each number that it gives, and what it writes. Assumes nothing.
use mathlib.Core.Path.{◌≡◌, refl, sym, ap, ◌∙◌}
use mathlib.Core.Bool.{Bool, true, false, not}
use mathlib.Core.List.{List, [], ◌++◌}
use Prim.Native.Nat.{ℕ, ◌*◌, ◌/◌, ◌%◌, ◌≤◌, ◌<◌}
use native.Mathlib.Nat.{div-lt_iff_lt-mul, le-div_iff_mul-le}
use lib.ListN.{length, drop}
use borrow.Author.Tests.{ne_eqb, lt-ltb}
use Rattle.model.specs.Calls.{refusal}
use Rattle.model.specs.Writes.{unwritten, write_unless}
use Rattle.model.specs.Moves.{records_of, some_record}
use Rattle.model.specs.RecordMoves.{broken, too_long, moved_file, file_rows, move_rows, move_call}
use Rattle.model.specs.declared.Form.{Form}
use Rattle.model.proofs.Numbers.{passed_over, given_by, right}
use Rattle.model.proofs.RecordMoves.{Taken, move_done, moved_size}

module _ (from to : Form) (file output : List ℕ) where
  -- there is room for all records
  module _ (q : 0 < to.size) (s : length file / from.size ≤ length output / to.size) where
    pub move_fits : length file / from.size * to.size ≤ length output
    move_fits = (le-div_iff_mul-le q).0 s

    pub move_room : 0 < from.size → length file % from.size ≡ 0 → length (moved_file from to file) ≤ length output
    move_room p whole = rw (moved_size from to file p q whole) move_fits

  -- the number of the call, where it is not 0
  refused : (n : ℕ) → write_unless n (moved_file from to file) output ≡ unwritten n output → refusal (move_rows from to file output) ≡ n
      → unwritten n output ≡ move_call from to file output
  unfolding move_call
  refused n e r = sym (ap (λ k. write_unless k (moved_file from to file) output) r ∙ e)

  pub move_part : (length file % from.size ≡ 0 → ⊥) → unwritten 15 output ≡ move_call from to file output
  unfolding move_rows file_rows write_unless
  move_part h = refused 15 refl (given_by 15 _ _ (ap not (ne_eqb (length file % from.size) 0 h)))

  module _ (whole : length file % from.size ≡ 0) (b : Bool) (e : b ≡ some_record (broken from.most) (records_of from.size file)) where
    pub move_broken : b ≡ true → unwritten 8 output ≡ move_call from to file output
    unfolding move_rows file_rows write_unless
    move_broken t = refused 8 refl (passed_over 15 _ _ (right _ _ whole) ∙ given_by 8 _ _ (sym e ∙ t))

    module _ (f : b ≡ false) (c : Bool) (g : c ≡ some_record (too_long to.most) (records_of from.size file)) where
      pub move_too_long : c ≡ true → unwritten 16 output ≡ move_call from to file output
      unfolding move_rows file_rows write_unless
      move_too_long t =
          refused 16 refl (passed_over 15 _ _ (right _ _ whole) ∙ passed_over 8 _ _ (sym e ∙ f) ∙ given_by 16 _ _ (sym g ∙ t))

      module _ (h : c ≡ false) (p : 0 < from.size) (q : 0 < to.size) where
        taken : Taken from to file
        taken = record { whole = whole; fine = sym e ∙ f; short = sym g ∙ h }

        pub move_short : length output / to.size < length file / from.size → unwritten 13 output ≡ move_call from to file output
        unfolding move_rows file_rows write_unless
        move_short s =
            let l : length output < length (moved_file from to file) = rw (moved_size from to file p q whole) ((div-lt_iff_lt-mul q).0 s) in
            refused 13 refl (passed_over 15 _ _ (right _ _ whole) ∙ passed_over 8 _ _ (sym e ∙ f) ∙ passed_over 16 _ _ (sym g ∙ h) ∙ given_by 13 _ [] (lt-ltb _ _ l))

        pub move_written : length file / from.size ≤ length output / to.size → (after : List ℕ)
            → after ≡ moved_file from to file ++ drop (length (moved_file from to file)) output
            → record { number = 0; length = length file / from.size * to.size; output = after } ≡ move_call from to file output
        move_written s after a = rw (← moved_size from to file p q whole, a) (sym (move_done from to file output taken (move_room q s p whole)))
