-- The records of a file, and the two moves of a sheet there and back. Assumes nothing.
use mathlib.Core.Path.{◌≡◌, refl, sym, ap, ◌∙◌}
use mathlib.Core.Bool.{Bool, true, false, cond, not, ◌||◌, true≢false}
use mathlib.Core.List.{List, [], ◌∷◌, ◌++◌}
use Prim.Native.Nat.{ℕ, zero, suc, ◌*◌, ◌/◌, ◌%◌, ◌≤◌, ◌<◌}
use native.Mathlib.Nat.{div-eq-sub-div, div-eq_of_lt, mod-eq-sub-mod, mod-eq_of_lt, zero-mod, add-mod_left, zero-mul, suc-mul}
use native.Mathlib.Decide.{dec_lt}
use native.Mathlib.Omega.{arith}
use lib.Dec.{eqb, ltb, lit<}
use lib.ListN.{length, take, drop, length-append, length-drop, take-append-drop}
use lib.Seq.{take_at, drop_at, take-append_seam, length-take-le}
use borrow.Author.Tests.{eq-eqb, ne_eqb, le-ltb, lt-ltb, ltb-false, not-false}
use Rattle.model.specs.Bytes.{Bytes, Every, zeros, word, number}
use Rattle.model.specs.Machine.{start}
use Rattle.model.specs.Calls.{refusal, all_zero}
use Rattle.model.specs.Writes.{written, write_unless, wrote}
use Rattle.model.specs.Admission.{sheet_record}
use Rattle.model.specs.Moves.{old_record, mark_byte, wrong_old, wrong_new, stays_new, widened, narrowed, pieces, records_of, some_record, each_record, wrong_sheet, widened_sheet, narrowed_sheet, widen_rows, widen_call, narrow_rows, narrow_call, ThereAndBack}
use Rattle.model.proofs.Bytes.{take-bytes, drop-bytes, number_two}
use Rattle.model.proofs.Numbers.{no_rows, passed_over, none_says, equal}

-- ---- the records of a file

pub first_record : (size : ℕ) (sheet : List ℕ) → 0 < size → size ≤ length sheet
    → records_of size sheet ≡ take size sheet ∷ records_of size (drop size sheet)
unfolding records_of pieces
first_record size sheet p h =
    let e : length sheet / size ≡ suc (length (drop size sheet) / size) = div-eq-sub-div p h ∙ rw length-drop (omega arith) in
    rw (e, pieces)

pub no_record : (size : ℕ) (sheet : List ℕ) → length sheet < size → records_of size sheet ≡ []
unfolding records_of pieces
no_record size sheet h = rw (div-eq_of_lt h, pieces)

-- what holds of no bytes, and of a sheet where it holds of all but the first record, holds of every sheet of whole records
pub by_records : (P : List ℕ → Type 0) (size : ℕ) → 0 < size → P []
    → ((sheet : List ℕ) → size ≤ length sheet → P (drop size sheet) → P sheet)
    → (sheet : List ℕ) → length sheet % size ≡ 0 → P sheet
by_records P size p none next sheet whole = go (length sheet) sheet (omega arith) whole
  where
    empty : (sheet : List ℕ) → length sheet ≡ 0 → P sheet
    empty [] l = none
    empty (b ∷ sheet) l = absurd (omega arith)

    go : (most : ℕ) (sheet : List ℕ) → length sheet ≤ most → length sheet % size ≡ 0 → P sheet
    go zero sheet l whole = empty sheet (omega arith)
    go (suc most) sheet l whole = elim (dec_lt (length sheet) size) [
      | yes h ↦ empty sheet (omega (arith, mod-eq_of_lt h))
      | no h ↦
          next sheet (omega arith)
          (go most (drop size sheet) (rw length-drop (omega arith)) (rw length-drop (sym (mod-eq-sub-mod (omega arith)) ∙ whole)))
    ]

-- a record of so many bytes
abbrev pub Long : ℕ → List ℕ → Type 0
Long size entry = length entry ≡ size

-- the records one after the other are the sheet
pub joined : (size : ℕ) (sheet : List ℕ) → 0 < size → length sheet % size ≡ 0 → each_record (λ entry. entry) (records_of size sheet) ≡ sheet
unfolding each_record
joined size sheet p =
    by_records (λ sheet. each_record (λ entry. entry) (records_of size sheet) ≡ sheet) size p
    (rw (no_record size [] p))
    (λ sheet h ih. rw (first_record size sheet p h, ih) (take-append-drop size sheet))
    sheet

-- each record has its size
pub all-long : (size : ℕ) (sheet : List ℕ) → 0 < size → length sheet % size ≡ 0 → Every (Long size) (records_of size sheet)
all-long size sheet p =
    by_records (λ sheet. Every (Long size) (records_of size sheet)) size p
    (rw (no_record size [] p) tt)
    (λ sheet h ih. rw (first_record size sheet p h) (length-take-le size sheet h, ih))
    sheet

all-bytes : (size : ℕ) (sheet : List ℕ) → 0 < size → length sheet % size ≡ 0 → Bytes sheet → Every Bytes (records_of size sheet)
all-bytes size sheet p =
    by_records (λ sheet. Bytes sheet → Every Bytes (records_of size sheet)) size p
    (λ b. rw (no_record size [] p) tt)
    (λ sheet h ih b. rw (first_record size sheet p h) (take-bytes size sheet b, ih (drop-bytes size sheet b)))
    sheet

pub or_left : (a b : Bool) → (a || b) ≡ false → a ≡ false
or_left true b e = absurd (true≢false e)
or_left false b e = refl

pub or_right : (a b : Bool) → (a || b) ≡ false → b ≡ false
or_right true b e = absurd (true≢false e)
or_right false b e = e

-- a test that no record fails, each passes
abbrev pub Passes : (List ℕ → Bool) → List ℕ → Type 0
Passes test entry = test entry ≡ false

pub all_pass : (test : List ℕ → Bool) (entries : List (List ℕ)) → some_record test entries ≡ false → Every (Passes test) entries
unfolding some_record
all_pass test [] e = tt
all_pass test (entry ∷ entries) e =
    (or_left (test entry) _ e, all_pass test entries (or_right (test entry) _ e))

pub every_both : {A : Type 0} (P Q : A → Type 0) (xs : List A) → Every P xs → Every Q xs → Every (λ x. P x × Q x) xs
every_both P Q [] p q = tt
every_both P Q (x ∷ xs) p q = ((p.0, q.0), every_both P Q xs p.1 q.1)

-- ---- records that are moved, each to so many bytes

module _ (move : List ℕ → List ℕ) (P : List ℕ → Type 0) (size : ℕ) (p : 0 < size)
    (long : (entry : List ℕ) → P entry → Long size (move entry)) where
  -- the first record of what is written
  moved_first : (entry : List ℕ) (entries : List (List ℕ)) → P entry
      → records_of size (each_record move (entry ∷ entries)) ≡ move entry ∷ records_of size (each_record move entries)
  unfolding each_record
  moved_first entry entries h =
      let l = long entry h in
      let rest = each_record move entries in
      first_record size (move entry ++ rest) p (rw length-append (omega arith))
      ∙ rw (take_at (move entry) rest size l, drop_at (move entry) rest size l)

  pub moved_whole : (entries : List (List ℕ)) → Every P entries → length (each_record move entries) % size ≡ 0
  unfolding each_record
  moved_whole [] h = zero-mod size
  moved_whole (entry ∷ entries) h =
      rw (length-append, long entry h.0, add-mod_left) (moved_whole entries h.1)

  pub moved_length : (entries : List (List ℕ)) → Every P entries → length (each_record move entries) ≡ length entries * size
  unfolding each_record
  moved_length [] h = sym (zero-mul size)
  moved_length (entry ∷ entries) h =
      rw (length-append, long entry h.0, moved_length entries h.1, suc-mul) (omega arith)

  -- a test that none of them fails
  pub moved_none : (test : List ℕ → Bool) → ((entry : List ℕ) → P entry → test (move entry) ≡ false)
      → (entries : List (List ℕ)) → Every P entries → some_record test (records_of size (each_record move entries)) ≡ false
  unfolding some_record each_record
  moved_none test passes [] h = rw (no_record size [] p)
  moved_none test passes (entry ∷ entries) h =
      rw (moved_first entry entries h.0, passes entry h.0) (moved_none test passes entries h.1)

  -- and moved back, each to what it was
  pub moved_back : (back : List ℕ → List ℕ) → ((entry : List ℕ) → P entry → back (move entry) ≡ entry)
      → (entries : List (List ℕ)) → Every P entries
      → each_record back (records_of size (each_record move entries)) ≡ each_record (λ entry. entry) entries
  unfolding each_record
  moved_back back same [] h = rw (no_record size [] p)
  moved_back back same (entry ∷ entries) h =
      rw (moved_first entry entries h.0, same entry h.0, moved_back back same entries h.1)

-- ---- a record

-- of four bytes, and of eight
by_four : (P : List ℕ → Type 0) → ((m w r b : ℕ) → P (m ∷ w ∷ r ∷ b ∷ [])) → (entry : List ℕ) → length entry ≡ old_record → P entry
by_four P h [] l = absurd (omega arith)
by_four P h (m ∷ []) l = absurd (omega arith)
by_four P h (m ∷ w ∷ []) l = absurd (omega arith)
by_four P h (m ∷ w ∷ r ∷ []) l = absurd (omega arith)
by_four P h (m ∷ w ∷ r ∷ b ∷ []) l = h m w r b
by_four P h (m ∷ w ∷ r ∷ b ∷ x ∷ rest) l = absurd (omega arith)

by_eight : (P : List ℕ → Type 0) → ((m w r b x y u v : ℕ) → P (m ∷ w ∷ r ∷ b ∷ x ∷ y ∷ u ∷ v ∷ []))
    → (entry : List ℕ) → length entry ≡ sheet_record → P entry
by_eight P h (m ∷ w ∷ r ∷ b ∷ rest) l =
    by_four (λ rest. P (m ∷ w ∷ r ∷ b ∷ rest)) (h m w r b) rest (omega arith)
by_eight P h [] l = absurd (omega arith)
by_eight P h (m ∷ []) l = absurd (omega arith)
by_eight P h (m ∷ w ∷ []) l = absurd (omega arith)
by_eight P h (m ∷ w ∷ r ∷ []) l = absurd (omega arith)

pub all-zero : (bytes : List ℕ) → all_zero bytes ≡ true → bytes ≡ zeros (length bytes)
all-zero [] e = refl
all-zero (zero ∷ bytes) e = ap (λ rest. 0 ∷ rest) (all-zero bytes e)
all-zero (suc b ∷ bytes) e = absurd (true≢false (sym e ∙ rw (ne_eqb (suc b) 0 (λ z. omega arith))))

-- no mark is above 1
not-above : (m : ℕ) (rest : Bool) → (ltb 1 (suc (suc m)) || rest) ≡ false → ⊥
not-above m rest e = true≢false (sym (ap (λ t. t || rest) (lt-ltb 1 (suc (suc m)) (omega arith))) ∙ e)

pub long-widened : (entry : List ℕ) → Long old_record entry → Long sheet_record (widened entry)
unfolding widened word
long-widened entry l = by (eqb (mark_byte entry) 1)
  where
    by : (t : Bool) → length (entry ++ cond t (1 ∷ 0 ∷ []) (zeros 2) ++ zeros 2) ≡ sheet_record
    by true = simp length-append (omega arith)
    by false = simp length-append (omega arith)

abbrev Widens : List ℕ → Type 0
Widens entry =
    wrong_old entry ≡ false → (wrong_new (widened entry) ≡ false) × (stays_new (widened entry) ≡ false) × (narrowed (widened entry) ≡ entry)

widens : (entry : List ℕ) → Long old_record entry → Widens entry
unfolding wrong_old wrong_new stays_new widened narrowed word number
widens = by_four Widens by
  where
    by : (m w r b : ℕ) → Widens (m ∷ w ∷ r ∷ b ∷ [])
    by zero w r b e =
        let z = all-zero (0 ∷ w ∷ r ∷ []) (not-false _ e) in
        let zw : w ≡ 0 = cc in
        let zr : r ≡ 0 = cc in
        rw (zw, zr) (refl, refl, refl)
    by (suc zero) w r b e = (refl, refl, refl)
    by (suc (suc m)) w r b e = absurd (not-above m _ e)

pub long-narrowed : (entry : List ℕ) → Long sheet_record entry → Long old_record (narrowed entry)
unfolding narrowed
long-narrowed entry l = length-take-le old_record entry (omega arith)

-- bytes that stand for 0100
first-routine : (x y : ℕ) → y < 256 → not (eqb (number (x ∷ y ∷ [])) start) ≡ false → (x ≡ 1) × (y ≡ 0)
first-routine x y h e =
    let f = sym (number_two x y) ∙ equal (number (x ∷ y ∷ [])) start e in
    (omega arith, omega arith)

abbrev Narrows : List ℕ → Type 0
Narrows entry = wrong_new entry ≡ false → stays_new entry ≡ false → Bytes entry
    → (wrong_old (narrowed entry) ≡ false) × (widened (narrowed entry) ≡ entry)

narrows : (entry : List ℕ) → Long sheet_record entry → Narrows entry
unfolding wrong_old wrong_new stays_new widened narrowed word
narrows = by_eight Narrows by
  where
    by : (m w r b x y u v : ℕ) → Narrows (m ∷ w ∷ r ∷ b ∷ x ∷ y ∷ u ∷ v ∷ [])
    by zero w r b x y u v e f h =
        let z = all-zero (0 ∷ w ∷ r ∷ x ∷ y ∷ u ∷ v ∷ []) (not-false _ (or_left _ _ e)) in
        let zw : w ≡ 0 = cc in
        let zr : r ≡ 0 = cc in
        let zx : x ≡ 0 = cc in
        let zy : y ≡ 0 = cc in
        let zu : u ≡ 0 = cc in
        let zv : v ≡ 0 = cc in
        rw (zw, zr, zx, zy, zu, zv) (refl, refl)
    by (suc zero) w r b x y u v e f h =
        let q = first-routine x y (h 5) f in
        let z = all-zero (u ∷ v ∷ []) (not-false _ (or_right (eqb (number (x ∷ y ∷ [])) 0) _ e)) in
        let zu : u ≡ 0 = cc in
        let zv : v ≡ 0 = cc in
        rw (q.0, q.1, zu, zv) (refl, refl)
    by (suc (suc m)) w r b x y u v e f h = absurd (not-above m _ (or_left _ _ e))

-- ---- the calls

pub wrote_is : (bytes output : List ℕ) → wrote (written bytes output) ≡ bytes
wrote_is bytes output = take-append_seam bytes (drop (length bytes) output)

pub unrefused : (n : ℕ) (bytes output : List ℕ) → (write_unless n bytes output).number ≡ 0 → n ≡ 0
unfolding write_unless
unrefused zero bytes output e = refl
unrefused (suc n) bytes output e = e

-- a sheet that is not wrong has whole records, and none of them is wrong
pub sheet_right : (size : ℕ) (wrong : List ℕ → Bool) (sheet : List ℕ) → wrong_sheet size wrong sheet ≡ false
    → (length sheet % size ≡ 0) × (some_record wrong (records_of size sheet) ≡ false)
unfolding wrong_sheet
sheet_right size wrong sheet e = (equal _ _ (or_left _ _ e), or_right (not (eqb (length sheet % size) 0)) _ e)

pub right_sheet : (size : ℕ) (wrong : List ℕ → Bool) (sheet : List ℕ) → length sheet % size ≡ 0
    → some_record wrong (records_of size sheet) ≡ false → wrong_sheet size wrong sheet ≡ false
unfolding wrong_sheet
right_sheet size wrong sheet e f = rw (eq-eqb (length sheet % size) 0 e) f

pub widen_done : (old output : List ℕ) → wrong_sheet old_record wrong_old old ≡ false → length (widened_sheet old) ≤ length output
    → widen_call old output ≡ written (widened_sheet old) output
unfolding widen_call widen_rows write_unless
widen_done old output e l =
    ap (λ n. write_unless n (widened_sheet old) output)
    (passed_over 18 _ _ e ∙ passed_over 13 _ [] (le-ltb (length output) (length (widened_sheet old)) l) ∙ no_rows)

pub narrow_done : (new output : List ℕ) → wrong_sheet sheet_record wrong_new new ≡ false
    → some_record stays_new (records_of sheet_record new) ≡ false → length (narrowed_sheet new) ≤ length output
    → narrow_call new output ≡ written (narrowed_sheet new) output
unfolding narrow_call narrow_rows write_unless
narrow_done new output e f l =
    ap (λ n. write_unless n (narrowed_sheet new) output)
    (passed_over 18 _ _ e ∙ passed_over 19 _ _ f ∙ passed_over 13 _ [] (le-ltb (length output) (length (narrowed_sheet new)) l) ∙ no_rows)

-- ---- there and back

-- a record that moves to the new form, and one that moves to the old one
abbrev Old : List ℕ → Type 0
Old entry = Long old_record entry × Passes wrong_old entry

abbrev New : List ℕ → Type 0
New entry = Long sheet_record entry × (Passes wrong_new entry × (Passes stays_new entry × Bytes entry))

there-old : (old output room : List ℕ) → (widen_call old output).number ≡ 0 → length old ≤ length room
    → narrow_call (wrote (widen_call old output)) room ≡ written old room
unfolding widen_call widen_rows widened_sheet narrowed_sheet
there-old old output room t l =
    let a = none_says 17 _ _ (unrefused (refusal (widen_rows old output)) _ output t) in
    let b = none_says 12 _ _ a.1 in
    let s = sheet_right old_record wrong_old old a.0 in
    let entries = records_of old_record old in
    let pass = every_both (Long old_record) (Passes wrong_old) entries (all-long old_record old (lit< tt) s.0) (all_pass wrong_old entries s.1) in
    let new = widened_sheet old in
    let whole = moved_whole widened Old sheet_record (lit< tt) long entries pass in
    let fine = moved_none widened Old sheet_record (lit< tt) long wrong_new (λ entry h. (widens entry h.0 h.1).0) entries pass in
    let goes = moved_none widened Old sheet_record (lit< tt) long stays_new (λ entry h. (widens entry h.0 h.1).1) entries pass in
    let same : narrowed_sheet new ≡ old =
    moved_back widened Old sheet_record (lit< tt) long narrowed (λ entry h. (widens entry h.0 h.1).2) entries pass
    ∙ joined old_record old (lit< tt) s.0 in
    ap (λ r. narrow_call (wrote r) room) (widen_done old output a.0 (ltb-false _ _ b.0))
    ∙ ap (λ bytes. narrow_call bytes room) (wrote_is new output)
    ∙ narrow_done new room (right_sheet sheet_record wrong_new new whole fine) goes (rw same l)
    ∙ ap (λ bytes. written bytes room) same
  where
    long : (entry : List ℕ) → Old entry → Long sheet_record (widened entry)
    long entry h = long-widened entry h.0

there-new : (new output room : List ℕ) → Bytes new → (narrow_call new output).number ≡ 0 → length new ≤ length room
    → widen_call (wrote (narrow_call new output)) room ≡ written new room
unfolding narrow_call narrow_rows widened_sheet narrowed_sheet
there-new new output room h t l =
    let a = none_says 17 _ _ (unrefused (refusal (narrow_rows new output)) _ output t) in
    let b = none_says 18 _ _ a.1 in
    let c = none_says 12 _ _ b.1 in
    let s = sheet_right sheet_record wrong_new new a.0 in
    let entries = records_of sheet_record new in
    let pass =
    every_both (Long sheet_record) (λ entry. Passes wrong_new entry × (Passes stays_new entry × Bytes entry)) entries (all-long sheet_record new (lit< tt) s.0)
    (every_both (Passes wrong_new) (λ entry. Passes stays_new entry × Bytes entry) entries (all_pass wrong_new entries s.1)
    (every_both (Passes stays_new) Bytes entries (all_pass stays_new entries b.0) (all-bytes sheet_record new (lit< tt) s.0 h))) in
    let old = narrowed_sheet new in
    let whole = moved_whole narrowed New old_record (lit< tt) long entries pass in
    let fine = moved_none narrowed New old_record (lit< tt) long wrong_old (λ entry g. (back entry g).0) entries pass in
    let same : widened_sheet old ≡ new =
    moved_back narrowed New old_record (lit< tt) long widened (λ entry g. (back entry g).1) entries pass
    ∙ joined sheet_record new (lit< tt) s.0 in
    ap (λ r. widen_call (wrote r) room) (narrow_done new output a.0 b.0 (ltb-false _ _ c.0))
    ∙ ap (λ bytes. widen_call bytes room) (wrote_is old output)
    ∙ widen_done old room (right_sheet old_record wrong_old old whole fine) (rw same l)
    ∙ ap (λ bytes. written bytes room) same
  where
    long : (entry : List ℕ) → New entry → Long old_record (narrowed entry)
    long entry g = long-narrowed entry g.0

    back : (entry : List ℕ) → New entry → (wrong_old (narrowed entry) ≡ false) × (widened (narrowed entry) ≡ entry)
    back entry g = narrows entry g.0 g.1.0 g.1.1.0 g.1.1.1

pub there_and_back : ThereAndBack
there_and_back = record { old = there-old; new = there-new }

-- ---- how many bytes are written

pub count-records : (size : ℕ) (sheet : List ℕ) → length (records_of size sheet) ≡ length sheet / size
unfolding records_of pieces
count-records size sheet = by (length sheet / size) sheet
  where
    by : (n : ℕ) (bytes : List ℕ) → length (pieces size n bytes) ≡ n
    by zero bytes = refl
    by (suc n) bytes = ap suc (by n (drop size bytes))

pub widened-length : (old : List ℕ) → length old % old_record ≡ 0 → length (widened_sheet old) ≡ length old * 2
unfolding widened_sheet
widened-length old whole =
    moved_length widened (Long old_record) sheet_record (lit< tt) long-widened _ (all-long old_record old (lit< tt) whole)
    ∙ rw (count-records old_record old) (omega arith)

pub narrowed-length : (new : List ℕ) → length new % sheet_record ≡ 0 → length (narrowed_sheet new) ≡ length new / 2
unfolding narrowed_sheet
narrowed-length new whole =
    moved_length narrowed (Long sheet_record) old_record (lit< tt) long-narrowed _ (all-long sheet_record new (lit< tt) whole)
    ∙ rw (count-records sheet_record new) (omega arith)
