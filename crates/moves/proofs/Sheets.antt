-- Laws of the loop that puts each record of a file in another form. Assumes nothing.
use mathlib.Core.Path.{◌≡◌, refl, sym, ap, ◌∙◌}
use mathlib.Core.List.{List, ◌++◌, append_assoc, append-nil}
use Prim.Native.Nat.{ℕ, suc, ◌+◌, ◌-◌, ◌*◌, ◌/◌, ◌≤◌, ◌<◌}
use native.Mathlib.Nat.{div-eq-sub-div, suc-mul}
use native.Mathlib.Omega.{arith}
use lib.ListN.{length, take, drop, length-append, length-drop, take-append-drop}
use lib.Seq.{drop-drop, take_at, drop_at, length-take-le}
use borrow.Rule.Slice.PartMut.{put_mid}
use Rattle.model.specs.Moves.{records_of, each_record}
use Rattle.model.proofs.Moves.{no_record}
use Rattle.moves.proofs.Judging.{cut}

-- the part that is lent to the change
pub part_long : (put room : ℕ) (output : List ℕ) → put + room ≤ length output → length (take (put + room - put) (drop put output)) ≡ room
part_long put room output h =
    let n : put + room - put ≡ room = omega arith in
    rw n (length-take-le room (drop put output) (rw length-drop (omega (arith, h))))

-- the output from `put` on is as it was, and has room for the records of the rest of the file
pub record Left (size room : ℕ) (rest before output : List ℕ) (put : ℕ) : Type 0 where
  pub long : length output ≡ length before
  pub fits : put + length rest / size * room ≤ length output
  pub stays : drop put output ≡ drop put before

-- before the first record
pub left_start : (size room put : ℕ) (file before : List ℕ) → length file / size * room ≤ length before → put ≡ 0 → Left size room file before before put
left_start size room put file before h z = record { long = refl; fits = omega (arith, h, z); stays = refl }

module _ (size room : ℕ) (rest before output : List ℕ) (put : ℕ) (m : Left size room rest before output put) where
  inside : put ≤ length output
  inside = omega (arith, m.fits)

  -- a record, and those after it
  module _ (p : 0 < size) (entry next : List ℕ) (e : rest ≡ entry ++ next) (l : length entry ≡ size) where
    space : length rest / size * room ≡ length next / size * room + room
    space =
        let n : length rest ≡ size + length next = rw (e, length-append, l) in
        let s : length rest - size ≡ length next = omega (arith, n) in
        let count : length rest / size ≡ suc (length next / size) = div-eq-sub-div p (omega (arith, n)) ∙ rw s (omega arith) in
        rw (count, suc-mul) (omega arith)

    pub left_room : put + room ≤ length output
    left_room = omega (arith, m.fits, space)

    module _ (ys : List ℕ) (long : length ys ≡ room) where
      abbrev after : List ℕ
      after = put_mid put (put + room - put) output ys

      head_long : length (take put output ++ ys) ≡ put + room
      head_long = rw (length-append, long, length-take-le put output inside)

      after_is : after ≡ (take put output ++ ys) ++ drop (put + room) output
      after_is = let n : put + room - put ≡ room = omega arith in rw (n, drop-drop room put output, append_assoc)

      pub left_next : Left size room next before after (put + room)
      left_next =
          let same : length after ≡ length output = ap length after_is ∙ rw (length-append, head_long, length-drop) (omega (arith, left_room)) in
          record {
            long = same ∙ m.long;
            fits = rw same (omega (arith, m.fits, space));
            stays =
                ap (drop (put + room)) after_is
                ∙ drop_at (take put output ++ ys) (drop (put + room) output) (put + room) head_long
                ∙ sym (drop-drop room put output)
                ∙ ap (drop room) m.stays
                ∙ drop-drop room put before;
          }

      -- what is put so far, before the rest of the records
      pub put_next : (changed : List ℕ → List ℕ) (all : List ℕ) → take put output ++ each_record changed (records_of size rest) ≡ all → ys ≡ changed entry
          → take (put + room) after ++ each_record changed (records_of size next) ≡ all
      unfolding each_record
      put_next changed all so_far is =
          ap (λ bytes. bytes ++ each_record changed (records_of size next)) (ap (take (put + room)) after_is ∙ take_at (take put output ++ ys) (drop (put + room) output) (put + room) head_long)
          ∙ append_assoc (take put output) ys _
          ∙ rw is (rw (cut size rest entry next p e l) at so_far)

  -- no record is left
  pub put_end : (changed : List ℕ → List ℕ) (file : List ℕ) → take put output ++ each_record changed (records_of size rest) ≡ each_record changed (records_of size file)
      → length rest < size → output ≡ each_record changed (records_of size file) ++ drop (length (each_record changed (records_of size file))) before
  unfolding each_record
  put_end changed file so_far h =
      let e : take put output ≡ each_record changed (records_of size file) =
      sym (append-nil (take put output)) ∙ sym (ap (λ r. take put output ++ each_record changed r) (no_record size rest h)) ∙ so_far in
      let l : length (each_record changed (records_of size file)) ≡ put = sym (ap length e) ∙ length-take-le put output inside in
      sym (take-append-drop put output) ∙ rw (e, l, m.stays)
