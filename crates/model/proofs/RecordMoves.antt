-- The two moves of files of frame records, there and back: one argument for two forms. Assumes nothing.
use mathlib.Core.Path.{◌≡◌, refl, sym, ap, ◌∙◌}
use mathlib.Core.Bool.{Bool, true, false, ◌&&◌, true≢false}
use mathlib.Core.List.{List, [], ◌∷◌, ◌++◌}
use Prim.Native.Nat.{ℕ, zero, suc, ◌+◌, ◌-◌, ◌*◌, ◌/◌, ◌%◌, ◌≤◌, ◌<◌}
use native.Mathlib.Nat.{suc-sub-suc}
use native.Mathlib.Omega.{arith}
use lib.Dec.{ltb, leb}
use lib.ListN.{length, get_or, take, drop, length-append, length-take, length-drop, length-replicate, take-append-drop}
use lib.Seq.{take-nil, drop_at, length-take-le}
use borrow.Author.Tests.{leb-true, le-leb, ltb-false, le-ltb, not-false}
use Rattle.model.specs.Bytes.{Every, zeros}
use Rattle.model.specs.Calls.{refusal, all_zero, well_formed}
use Rattle.model.specs.Writes.{written, write_unless, wrote}
use Rattle.model.specs.Moves.{records_of, some_record}
use Rattle.model.specs.RecordMoves.{old_form, new_form, broken, too_long, fitted, moved_file, file_rows, move_rows, move_call, widen_records, RecordsThereAndBack}
use Rattle.model.specs.declared.Form.{Form}
use Rattle.model.proofs.Moves.{Long, Passes, joined, all-long, all_pass, every_both, all-zero, or_left, or_right, unrefused, wrote_is, count-records, moved_whole, moved_length, moved_none, moved_back}
use Rattle.model.proofs.Numbers.{no_rows, passed_over, none_says, equal, right}

-- L and the node number stand before the data, and the record has room for both and the most data
abbrev pub Fits : Form → Type 0
Fits form = 2 + form.most ≤ form.size

-- ---- zeros at the end of a record

zeros-fitted : (size k : ℕ) → take size (zeros k) ++ zeros (size - length (zeros k)) ≡ zeros size
zeros-fitted zero k = let e : 0 - length (zeros k) ≡ 0 = omega arith in rw e
zeros-fitted (suc size) zero = let e : suc size - 0 ≡ suc size = omega arith in rw e
zeros-fitted (suc size) (suc k) = rw (suc-sub-suc size (length (zeros k))) (ap (λ rest. 0 ∷ rest) (zeros-fitted size k))

-- bytes with zeros after them, fitted to a size that has room for the bytes: as many zeros as there is more room
fitted-zeros : (size : ℕ) (head : List ℕ) (k : ℕ) → length head ≤ size
    → fitted size (head ++ zeros k) ≡ head ++ zeros (size - length head)
unfolding fitted
fitted-zeros size [] k h = let e : size - 0 ≡ size = omega arith in rw e (zeros-fitted size k)
fitted-zeros zero (b ∷ head) k h = absurd (omega arith)
fitted-zeros (suc size) (b ∷ head) k h =
    rw (suc-sub-suc size (length (head ++ zeros k)), suc-sub-suc size (length head))
    (ap (λ rest. b ∷ rest) (fitted-zeros size head k (omega arith)))

zeros-zero : (k : ℕ) → all_zero (zeros k) ≡ true
zeros-zero zero = refl
zeros-zero (suc k) = zeros-zero k

-- ---- a record whose length byte and data stand in `head`

first_byte : (l : ℕ) (head rest : List ℕ) → length head ≡ 2 + l → get_or (head ++ rest) 0 0 ≡ get_or head 0 0
first_byte l [] rest h = absurd (omega arith)
first_byte l (b ∷ head) rest h = refl

first_taken : (l : ℕ) (entry : List ℕ) → get_or (take (2 + l) entry) 0 0 ≡ get_or entry 0 0
first_taken l [] = rw (take-nil (2 + l))
first_taken l (b ∷ entry) = let e : 2 + l ≡ suc (1 + l) = omega arith in rw e

module _ (head : List ℕ) (h : length head ≡ 2 + get_or head 0 0) (k : ℕ) where
  same_length : get_or (head ++ zeros k) 0 0 ≡ get_or head 0 0
  same_length = first_byte (get_or head 0 0) head (zeros k) h

  head_fine : (most : ℕ) → get_or head 0 0 ≤ most → broken most (head ++ zeros k) ≡ false
  unfolding broken well_formed
  head_fine most l =
      rw (same_length, le-leb (get_or head 0 0) most l, drop_at head (zeros k) (2 + get_or head 0 0) h, zeros-zero k)

  head_short : (most : ℕ) → get_or head 0 0 ≤ most → too_long most (head ++ zeros k) ≡ false
  unfolding too_long
  head_short most l = rw same_length (le-ltb most (get_or head 0 0) l)

both : (a b : Bool) → (a && b) ≡ true → (a ≡ true) × (b ≡ true)
both true b e = (refl, e)
both false b e = absurd (true≢false (sym e))

-- a record that is not broken, taken apart
pub record Parts (form : Form) (entry : List ℕ) : Type 0 where
  pub short : get_or entry 0 0 ≤ form.most
  pub long : length (take (2 + get_or entry 0 0) entry) ≡ 2 + get_or entry 0 0
  pub first : get_or (take (2 + get_or entry 0 0) entry) 0 0 ≡ get_or entry 0 0
  pub is : entry ≡ take (2 + get_or entry 0 0) entry ++ zeros (form.size - (2 + get_or entry 0 0))

parts : (form : Form) (entry : List ℕ) → Fits form → Long form.size entry → broken form.most entry ≡ false → Parts form entry
unfolding broken well_formed
parts form entry fits l e =
    let n = get_or entry 0 0 in
    let fine = both (leb n form.most) (all_zero (drop (2 + n) entry)) (not-false _ e) in
    let short = leb-true n form.most fine.0 in
    let z = all-zero (drop (2 + n) entry) fine.1 in
    let rest : drop (2 + n) entry ≡ zeros (form.size - (2 + n)) = z ∙ ap zeros (length-drop (2 + n) entry ∙ ap (λ m. m - (2 + n)) l) in
    record {
      short = short;
      long = length-take-le (2 + n) entry (omega arith);
      first = first_taken n entry;
      is = sym (take-append-drop (2 + n) entry) ∙ ap (λ tail. take (2 + n) entry ++ tail) rest;
    }

-- a record that moves from one form to the other
abbrev pub Goes : Form → Form → List ℕ → Type 0
Goes from to entry = Long from.size entry × (Passes (broken from.most) entry × Passes (too_long to.most) entry)

-- ---- the call

-- a file that is not refused
pub record Taken (from to : Form) (file : List ℕ) : Type 0 where
  pub whole : length file % from.size ≡ 0
  pub fine : some_record (broken from.most) (records_of from.size file) ≡ false
  pub short : some_record (too_long to.most) (records_of from.size file) ≡ false

module _ (from to : Form) (file output : List ℕ) where
  pub move_done : Taken from to file → length (moved_file from to file) ≤ length output
      → move_call from to file output ≡ written (moved_file from to file) output
  unfolding move_call move_rows file_rows write_unless
  move_done t l =
      ap (λ n. write_unless n (moved_file from to file) output)
      (passed_over 15 _ _ (right _ _ t.whole)
      ∙ passed_over 8 _ _ t.fine
      ∙ passed_over 16 _ _ t.short
      ∙ passed_over 13 _ [] (le-ltb (length output) (length (moved_file from to file)) l)
      ∙ no_rows)

  pub move_taken : (move_call from to file output).number ≡ 0 → Taken from to file × (length (moved_file from to file) ≤ length output)
  unfolding move_call move_rows file_rows
  move_taken e =
      let a = none_says 14 _ _ (unrefused (refusal (move_rows from to file output)) _ output e) in
      let b = none_says 7 _ _ a.1 in
      let c = none_says 15 _ _ b.1 in
      let d = none_says 12 _ _ c.1 in
      (record { whole = equal _ _ a.0; fine = b.0; short = c.0 }, ltb-false _ _ d.0)

-- ---- there and back

module _ (from to : Form) (fits : Fits from) (room : Fits to) where
  -- what it is in the other form, and that it goes back to what it was
  pub record Gone (entry : List ℕ) : Type 0 where
    pub long : Long to.size (fitted to.size entry)
    pub fine : broken to.most (fitted to.size entry) ≡ false
    pub short : too_long from.most (fitted to.size entry) ≡ false
    pub back : fitted from.size (fitted to.size entry) ≡ entry

  gone : (entry : List ℕ) → Goes from to entry → Gone entry
  unfolding too_long
  gone entry g =
      let p = parts from entry fits g.0 g.1.0 in
      let n = get_or entry 0 0 in
      let head = take (2 + n) entry in
      let less = ltb-false to.most n g.1.1 in
      let h : length head ≡ 2 + get_or head 0 0 = p.long ∙ ap (λ m. 2 + m) (sym p.first) in
      let k = to.size - length head in
      let there : fitted to.size entry ≡ head ++ zeros k =
      ap (fitted to.size) p.is ∙ fitted-zeros to.size head (from.size - (2 + n)) (omega (arith, p.long)) in
      let again : fitted from.size (head ++ zeros k) ≡ head ++ zeros (from.size - length head) =
      fitted-zeros from.size head k (omega (arith, p.long, p.short)) in
      record {
        long = ap length there ∙ length-append head (zeros k) ∙ rw length-replicate (omega (arith, p.long));
        fine = ap (broken to.most) there ∙ head_fine head h k to.most (rw p.first less);
        short = ap (too_long from.most) there ∙ head_short head h k from.most (rw p.first p.short);
        back = ap (fitted from.size) there ∙ again ∙ ap (λ m. head ++ zeros (from.size - m)) p.long ∙ sym p.is;
      }

  -- each record of a file that is not refused moves
  all_go : (file : List ℕ) → Taken from to file → Every (Goes from to) (records_of from.size file)
  all_go file t =
      let entries = records_of from.size file in
      every_both (Long from.size) (λ entry. Passes (broken from.most) entry × Passes (too_long to.most) entry) entries
      (all-long from.size file (omega arith) t.whole)
      (every_both (Passes (broken from.most)) (Passes (too_long to.most)) entries (all_pass (broken from.most) entries t.fine) (all_pass (too_long to.most) entries t.short))

  long : (entry : List ℕ) → Goes from to entry → Long to.size (fitted to.size entry)
  long entry g = (gone entry g).long

  pub there_back : (file output space : List ℕ) → (move_call from to file output).number ≡ 0 → length file ≤ length space
      → move_call to from (wrote (move_call from to file output)) space ≡ written file space
  unfolding moved_file
  there_back file output space e l =
      let t = move_taken from to file output e in
      let entries = records_of from.size file in
      let go = all_go file t.0 in
      let moved = moved_file from to file in
      let same : moved_file to from moved ≡ file =
      moved_back (fitted to.size) (Goes from to) to.size (omega arith) long (fitted from.size) (λ entry g. (gone entry g).back) entries go
      ∙ joined from.size file (omega arith) t.0.whole in
      let back : Taken to from moved =
      record {
        whole = moved_whole (fitted to.size) (Goes from to) to.size (omega arith) long entries go;
        fine = moved_none (fitted to.size) (Goes from to) to.size (omega arith) long (broken to.most) (λ entry g. (gone entry g).fine) entries go;
        short = moved_none (fitted to.size) (Goes from to) to.size (omega arith) long (too_long from.most) (λ entry g. (gone entry g).short) entries go;
      } in
      ap (λ r. move_call to from (wrote r) space) (move_done from to file output t.0 t.1)
      ∙ ap (λ bytes. move_call to from bytes space) (wrote_is moved output)
      ∙ move_done to from moved space back (rw same l)
      ∙ ap (λ bytes. written bytes space) same

pub records-there_and_back : RecordsThereAndBack
records-there_and_back =
    record {
      old = there_back old_form new_form (omega arith) (omega arith);
      new = there_back new_form old_form (omega arith) (omega arith);
    }

-- ---- how many bytes are written

pub long-fitted : (size : ℕ) (entry : List ℕ) → Long size (fitted size entry)
unfolding fitted
long-fitted size entry = simp (length-append, length-take, length-replicate) (omega arith)

pub moved_size : (from to : Form) (file : List ℕ) → 0 < from.size → 0 < to.size → length file % from.size ≡ 0
    → length (moved_file from to file) ≡ length file / from.size * to.size
unfolding moved_file
moved_size from to file p q whole =
    moved_length (fitted to.size) (Long from.size) to.size q (λ entry l. long-fitted to.size entry) _ (all-long from.size file p whole)
    ∙ ap (λ n. n * to.size) (count-records from.size file)

-- ---- a move to a form with room for more data is never refused with 16

none-longer : (most room : ℕ) → most ≤ room → (entries : List (List ℕ)) → some_record (broken most) entries ≡ false
    → some_record (too_long room) entries ≡ false
unfolding some_record broken too_long well_formed
none-longer most room h [] e = refl
none-longer most room h (entry ∷ entries) e =
    let n = get_or entry 0 0 in
    let fine = both (leb n most) (all_zero (drop (2 + n) entry)) (not-false _ (or_left (broken most entry) _ e)) in
    let short : ltb room n ≡ false = le-ltb room n (omega (arith, leb-true n most fine.0)) in
    rw short (none-longer most room h entries (or_right (broken most entry) _ e))

no_16 : (part wrong long short : Bool) → (wrong ≡ false → long ≡ false)
    → refusal ((15, part) ∷ (8, wrong) ∷ (16, long) ∷ (13, short) ∷ []) ≡ 16 → ⊥
unfolding refusal
no_16 true wrong long short h e = omega arith
no_16 false true long short h e = omega arith
no_16 false false true short h e = true≢false (h refl)
no_16 false false false true h e = omega arith
no_16 false false false false h e = omega arith

number_is : (n : ℕ) (bytes output : List ℕ) → (write_unless n bytes output).number ≡ n
unfolding write_unless
number_is zero bytes output = refl
number_is (suc n) bytes output = refl

pub widen_never_16 : (old output : List ℕ) → (widen_records old output).number ≡ 16 → ⊥
unfolding move_call move_rows file_rows
widen_never_16 old output e =
    no_16 _ _ _ _ (none-longer 62 126 (omega arith) (records_of 64 old))
    (sym (number_is (refusal (move_rows old_form new_form old output)) _ output) ∙ e)
