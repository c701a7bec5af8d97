-- Laws of frame calls for one record after the other, and for blocks of records. Assumes nothing.
use mathlib.Core.Path.{◌≡◌, refl, sym, ap, ◌∙◌}
use mathlib.Core.List.{List, [], ◌++◌, append_assoc, append-nil}
use Prim.Native.Nat.{ℕ, zero, suc, ◌+◌, ◌-◌, ◌*◌, ◌%◌, ◌≤◌, ◌<◌}
use native.Mathlib.Nat.{add-zero, add-suc}
use native.Mathlib.Omega.{arith}
use lib.ListN.{length, take, drop, length-drop, length-append, take-append-drop}
use lib.Seq.{length-take-le, take-add, take-append-le, drop-append-le, drop-append-add, drop_at, take_all, paste, take-paste}
use Rattle.model.specs.Machine.{State}
use Rattle.model.specs.Run.{Reply}
use Rattle.model.specs.Calls.{frame_size, frame_call}
use Rattle.text.specs.Lines.{line}
use Rattle.blocks.specs.Frames.{frame_budget, whole_records, frame_at, machine_after, first_lines, judged, behind, further}

-- ---- records that come in two blocks, the first of k whole records: as if they came in one

same_call : {r q : List ℕ} {s t : State} → r ≡ q → s ≡ t → frame_call r frame_budget s ≡ frame_call q frame_budget t
same_call hr hs = rw (hr, hs)

module _ (a b : List ℕ) (s : State) (k : ℕ) (whole : length a ≡ frame_size * k) where
  record_first : (i : ℕ) → i < k → frame_at (a ++ b) i ≡ frame_at a i
  record_first i h =
      let l : frame_size * i ≤ length a = omega arith in
      let m : frame_size ≤ length (drop (frame_size * i) a) = rw length-drop (omega arith) in
      rw (drop-append-le (frame_size * i) a b l) (take-append-le frame_size (drop (frame_size * i) a) b m)

  record_second : (j : ℕ) → frame_at (a ++ b) (k + j) ≡ frame_at b j
  record_second j =
      let e : frame_size * (k + j) ≡ length a + frame_size * j = omega arith in
      rw (e, drop-append-add a b (frame_size * j))

  machine-first : (i : ℕ) → i ≤ k → machine_after (a ++ b) s i ≡ machine_after a s i
  unfolding machine_after
  machine-first zero h = refl
  machine-first (suc i) h =
      ap (λ (q : Reply). q.state) (same_call (record_first i (omega arith)) (machine-first i (omega arith)))

  lines-first : (i : ℕ) → i ≤ k → first_lines (a ++ b) s i ≡ first_lines a s i
  unfolding first_lines
  lines-first zero h = refl
  lines-first (suc i) h =
      ap (λ (x : List ℕ). x ++ line (frame_call (frame_at (a ++ b) i) frame_budget (machine_after (a ++ b) s i))) (lines-first i (omega arith))
      ∙ ap (λ (q : Reply). first_lines a s i ++ line q) (same_call (record_first i (omega arith)) (machine-first i (omega arith)))

  machine_parts : (j : ℕ) → machine_after (a ++ b) s (k + j) ≡ machine_after b (machine_after a s k) j
  unfolding machine_after
  machine_parts zero = rw add-zero (machine-first k (omega arith))
  machine_parts (suc j) = rw add-suc (ap (λ (q : Reply). q.state) (same_call (record_second j) (machine_parts j)))

  lines_parts : (j : ℕ) → first_lines (a ++ b) s (k + j) ≡ first_lines a s k ++ first_lines b (machine_after a s k) j
  unfolding first_lines
  lines_parts zero = rw add-zero (lines-first k (omega arith) ∙ sym (append-nil (first_lines a s k)))
  lines_parts (suc j) =
      rw add-suc
      (ap (λ (x : List ℕ). x ++ line (frame_call (frame_at (a ++ b) (k + j)) frame_budget (machine_after (a ++ b) s (k + j)))) (lines_parts j)
      ∙ ap (λ (q : Reply). (first_lines a s k ++ first_lines b (machine_after a s k) j) ++ line q) (same_call (record_second j) (machine_parts j))
      ∙ append_assoc (first_lines a s k) (first_lines b (machine_after a s k) j) (line (frame_call (frame_at b j) frame_budget (machine_after b (machine_after a s k) j))))

  all-records : whole_records (a ++ b) ≡ k + whole_records b
  all-records = rw (length-append a b, whole) (omega arith)

  waits : drop (frame_size * (k + whole_records b)) (a ++ b) ≡ drop (frame_size * whole_records b) b
  waits =
      let e : frame_size * (k + whole_records b) ≡ length a + frame_size * whole_records b = omega arith in
      rw (e, drop-append-add a b (frame_size * whole_records b))

  judged_parts : judged (a ++ b) s ≡ (let j = judged b (machine_after a s k) in record { machine = j.machine; lines = first_lines a s k ++ j.lines; waiting = j.waiting })
  unfolding judged
  judged_parts = rw (all-records, machine_parts (whole_records b), lines_parts (whole_records b), waits)

-- ---- one record after the other: what the records that are left come to, behind what there is, is what all come to

module _ (bytes record-bytes left : List ℕ) (now : State) (r : Reply) (split : bytes ≡ record-bytes ++ left)
    (long : length record-bytes ≡ frame_size) (call : r ≡ frame_call record-bytes frame_budget now) where
  whole-one : length record-bytes ≡ frame_size * 1
  whole-one = omega (arith, long)

  first-one : frame_call (frame_at record-bytes 0) frame_budget now ≡ r
  first-one = same_call (take_all frame_size record-bytes (omega (arith, long))) refl ∙ sym call

  pub count-left : whole_records bytes ≡ 1 + whole_records left
  count-left = rw split (all-records record-bytes left now 1 whole-one)

  machine-left : machine_after bytes now (whole_records bytes) ≡ machine_after left r.state (whole_records left)
  unfolding machine_after
  machine-left =
      rw (count-left, split)
      (machine_parts record-bytes left now 1 whole-one (whole_records left)
      ∙ ap (λ (q : Reply). machine_after left q.state (whole_records left)) first-one)

  lines-left : (x : List ℕ) → x ++ first_lines bytes now (whole_records bytes) ≡ (x ++ line r) ++ first_lines left r.state (whole_records left)
  unfolding machine_after first_lines
  lines-left x =
      rw (count-left, split)
      (ap (λ (y : List ℕ). x ++ y)
      (lines_parts record-bytes left now 1 whole-one (whole_records left)
      ∙ ap (λ (q : Reply). line q ++ first_lines left q.state (whole_records left)) first-one)
      ∙ sym (append_assoc x (line r) _))

  pub machine_on : (t m : State) → r.state ≡ t → machine_after bytes now (whole_records bytes) ≡ m → machine_after left t (whole_records left) ≡ m
  machine_on t m e h = ap (λ (s : State). machine_after left s (whole_records left)) (sym e) ∙ sym machine-left ∙ h

  pub lines_on : (t : State) (x y z : List ℕ) → r.state ≡ t → y ≡ x ++ line r → x ++ first_lines bytes now (whole_records bytes) ≡ z
      → y ++ first_lines left t (whole_records left) ≡ z
  lines_on t x y z e f h =
      ap (λ (w : List ℕ). w ++ first_lines left t (whole_records left)) f
      ∙ ap (λ (s : State). (x ++ line r) ++ first_lines left s (whole_records left)) (sym e) ∙ sym (lines-left x) ∙ h

-- less than a record is left
module _ (part : List ℕ) (short : length part < frame_size) where
  none-whole : whole_records part ≡ 0
  none-whole = omega arith

  pub machine-end : (s : State) → machine_after part s (whole_records part) ≡ s
  unfolding machine_after
  machine-end s = rw none-whole refl

  pub lines-end : (s : State) (x : List ℕ) → x ++ first_lines part s (whole_records part) ≡ x
  unfolding first_lines
  lines-end s x = rw none-whole (append-nil x)

-- ---- bytes cut anywhere: what comes first is judged, the bytes of a part record wait, and what comes then is judged behind them

module _ (a b : List ℕ) (s : State) where
  abbrev k : ℕ
  k = whole_records a

  abbrev h : List ℕ
  h = take (frame_size * k) a

  abbrev w : List ℕ
  w = drop (frame_size * k) a

  whole : length h ≡ frame_size * k
  whole = length-take-le (frame_size * k) a (omega arith)

  joined : a ≡ h ++ w
  joined = sym (take-append-drop (frame_size * k) a)

  machines : machine_after h s k ≡ machine_after a s k
  machines = sym (ap (λ (x : List ℕ). machine_after x s k) joined ∙ machine-first h w s k whole k (omega arith))

  first-lines : first_lines h s k ≡ first_lines a s k
  first-lines = sym (ap (λ (x : List ℕ). first_lines x s k) joined ∙ lines-first h w s k whole k (omega arith))

  at_the_cut : (let j = judged (w ++ b) (machine_after h s k) in record { machine = j.machine; lines = first_lines h s k ++ j.lines; waiting = j.waiting })
      ≡ further (judged a s) b
  unfolding further judged
  at_the_cut = rw (machines, first-lines)

  pub cut_anywhere : judged (a ++ b) s ≡ further (judged a s) b
  cut_anywhere =
      ap (λ (x : List ℕ). judged x s) (ap (λ (x : List ℕ). x ++ b) joined ∙ append_assoc h w b)
      ∙ judged_parts h (w ++ b) s k whole ∙ at_the_cut

-- less than a record: no call, no line, and all of it waits
pub all_wait : (part : List ℕ) (s : State) → length part < frame_size → record { machine = s; lines = []; waiting = part } ≡ judged part s
unfolding judged machine_after first_lines
all_wait part s h = let e : whole_records part ≡ 0 = omega arith in rw e

-- ---- a block

-- bytes that are copied within a block to its start
to_start : (from n : ℕ) (block moved : List ℕ) → from + n ≤ length block → moved ≡ paste block 0 (drop from block) n
    → take n moved ≡ take n (drop from block)
to_start from n block moved l h =
    let same : n ≡ 0 + n = omega arith in
    rw h (ap (λ (k : ℕ). take k (paste block 0 (drop from block) n)) same ∙ take-paste block 0 (drop from block) n (omega arith) (rw length-drop (omega arith)))

-- the bytes after the last whole record of the first n
pub waiting_is : (n w : ℕ) (block moved : List ℕ) → n ≤ length block → w ≡ n % frame_size
    → moved ≡ paste block 0 (drop (n - w) block) (n - (n - w)) → take w moved ≡ drop (frame_size * whole_records (take n block)) (take n block)
waiting_is n w block moved l e h =
    let m : n - (n - w) ≡ w = omega arith in
    let f : length (take n block) ≡ n = length-take-le n block l in
    let g : frame_size * whole_records (take n block) ≡ n - w = omega arith in
    let p : length (take (n - w) block) ≡ n - w = length-take-le (n - w) block (omega arith) in
    let q : n - w + w ≡ n = omega arith in
    let t : take n block ≡ take (n - w) block ++ take w (drop (n - w) block) = rw q at (take-add (n - w) w block) in
    rw (g, t, drop_at (take (n - w) block) (take w (drop (n - w) block)) (n - w) p) (to_start (n - w) w block moved (omega arith) (rw m at h))

pub worked : (n w : ℕ) (block moved before out : List ℕ) (s t : State) → n ≤ length block → w ≡ n % frame_size
    → moved ≡ paste block 0 (drop (n - w) block) (n - (n - w))
    → t ≡ machine_after (take n block) s (whole_records (take n block)) → out ≡ before ++ first_lines (take n block) s (whole_records (take n block))
    → record { machine = t; lines = out; waiting = take w moved } ≡ behind before (judged (take n block) s)
unfolding judged
worked n w block moved before out s t l e h f g = rw (f, g, waiting_is n w block moved l e h)
