-- What the sweeps reach is the smallest assignment, if there is one. Assumes nothing.
use mathlib.Core.Path.{◌≡◌, refl, sym, ap, ◌∙◌}
use mathlib.Core.Logic.{◌⊎◌, inl, inr, ◌↔◌}
use mathlib.Core.Bool.{Bool, true, false, cond, not, ◌&&◌, ◌||◌}
use mathlib.Core.List.{List, [], ◌∷◌}
use Prim.Native.Nat.{ℕ, zero, suc, ◌+◌, ◌-◌, ◌≤◌, ◌<◌}
use native.Mathlib.Decide.{ℕ_discrete}
use native.Mathlib.Omega.{arith}
use lib.Dec.{T, eqb, ltb, leb, eqb→eq, eqb_refl}
use lib.ListN.{length, get_or, set, length-set, replicate, length-replicate}
use lib.Seq.{get_or-set_same}
use borrow.Author.Tests.{eq-eqb, ne_eqb, eqb-true, eqb-false, ltb-false, le-ltb, le-leb}
use Rattle.model.specs.Bytes.{Every}
use Rattle.model.specs.Machine.{start}
use Rattle.model.specs.Instruction.{returning, taken_from}
use Rattle.model.specs.Admission.{Mark, count_marked, byte_at, after_of, target_of, successors, Way, GoesOn, Called, Leaves, floor, Rules, Assignment, Assignable, mark_at, same_mark, all, found, is_call, is_return, call_of, return_of, is_marked, has_work, rule_tests, routine_tests, returned, onward, goes_on, fits, fits_from, assigns, keep_mark, mark_one, mark_each, follow, sweep, sweeps, reached, admitted}
use Rattle.model.specs.Admission.Mark.{unmarked, marked}
use Rattle.model.specs.Admission.Way.{begin, go, return}
use Rattle.model.proofs.Bytes.{every_map, every_among, among_every}
use Rattle.model.proofs.Changes.{length_is}
use Rattle.model.proofs.Tests.{and_left, and_right, and_both, or_left, or_right, all_three}
use Rattle.model.proofs.Rules.{same_mark_lem, mark_same, not_both, marked-at, marked_within, found_is, found_any, mark_parts, mark_index, successors_by, call-on, every_first, every_last, onward_every, assigns_is, rules_test, every_fits}

-- ---- marks only grow

-- y has the marks of x, and perhaps more
data Grows : List Mark → List Mark → Type 0 where
  none : Grows [] []
  same : {a : Mark} {x y : List Mark} → Grows x y → Grows (a ∷ x) (a ∷ y)
  more : {w r q : ℕ} {x y : List Mark} → Grows x y → Grows (unmarked ∷ x) (marked w r q ∷ y)

grows_refl : (x : List Mark) → Grows x x
grows_refl [] = none
grows_refl (a ∷ x) = same (grows_refl x)

grows_trans : {x y z : List Mark} → Grows x y → Grows y z → Grows x z
grows_trans none none = none
grows_trans (same g) (same h) = same (grows_trans g h)
grows_trans (same g) (more h) = more (grows_trans g h)
grows_trans (more g) (same h) = more (grows_trans g h)

-- what is so of the first marks and of those after them
Parted : List Mark → List Mark → Type 0
Parted [] [] = Unit {0}
Parted [] (b ∷ y) = ⊥
Parted (a ∷ x) [] = ⊥
Parted (a ∷ x) (b ∷ y) = Grows x y × ((a ≡ b) ⊎ (a ≡ unmarked))

parted : {x y : List Mark} → Grows x y → Parted x y
unfolding Parted
parted none = tt
parted (same g) = (g, inl refl)
parted (more g) = (g, inr refl)

-- both ways: the same marks
squeezed_lists : (x y : List Mark) → Grows x y → Grows y x → y ≡ x
unfolding Parted
squeezed_lists [] [] g h = refl
squeezed_lists [] (b ∷ y) g h = absurd (parted g)
squeezed_lists (a ∷ x) [] g h = absurd (parted g)
squeezed_lists (a ∷ x) (b ∷ y) g h =
    let first : b ≡ a = elim (parted g).1 [ inl e ↦ sym e | inr e ↦ elim (parted h).1 [ inl d ↦ d | inr d ↦ d ∙ sym e ] ] in
    rw first (ap (λ (l : List Mark). a ∷ l) (squeezed_lists x y (parted g).0 (parted h).0))

squeezed : {x y : List Mark} → Grows x y → Grows y x → y ≡ x
squeezed {x = x} {y = y} g h = squeezed_lists x y g h

grows_length : {x y : List Mark} → Grows x y → length y ≡ length x
grows_length none = refl
grows_length (same g) = ap suc (grows_length g)
grows_length (more g) = ap suc (grows_length g)

-- a mark stays
stays : {x y : List Mark} (i : ℕ) {w r q : ℕ} → Grows x y → get_or x i unmarked ≡ marked w r q → get_or y i unmarked ≡ marked w r q
stays i none e = e
stays zero (same g) e = e
stays (suc i) (same g) e = stays i g e
stays zero (more g) e = not_both e
stays (suc i) (more g) e = stays i g e

grows_set : (x : List Mark) (i : ℕ) (v : Mark) → Grows x (set x i (keep_mark (get_or x i unmarked) v))
grows_set [] i v = none
grows_set (unmarked ∷ x) zero unmarked = same (grows_refl x)
grows_set (unmarked ∷ x) zero (marked w r q) = more (grows_refl x)
grows_set (marked v s p ∷ x) zero a = same (grows_refl x)
grows_set (a ∷ x) (suc i) v = same (grows_set x i v)

grows_one : (x : List Mark) (at : ℕ) (v : Mark) → Grows x (mark_one x at v)
unfolding mark_one mark_at
grows_one x at v = by (ltb at start)
  where
    by : (t : Bool) → Grows x (cond t x (set x (at - start) (keep_mark (cond t unmarked (get_or x (at - start) unmarked)) v)))
    by true = grows_refl x
    by false = grows_set x (at - start) v

grows_each : (x : List Mark) (nexts : List (ℕ × Mark)) → Grows x (mark_each x nexts)
unfolding mark_each
grows_each x [] = grows_refl x
grows_each x (n ∷ ns) = grows_trans (grows_one x n.0 n.1) (grows_each (mark_one x n.0 n.1) ns)

module _ (program : List ℕ) where
  grows_follow : (x : List Mark) (at : ℕ) (a : Mark) → Grows x (follow program x at a)
  unfolding follow
  grows_follow x at unmarked = grows_refl x
  grows_follow x at (marked w r q) = grows_each x (onward program x at w r q)

  grows_sweep : (n at : ℕ) (x : List Mark) → Grows x (sweep program n at x)
  unfolding sweep
  grows_sweep zero at x = grows_refl x
  grows_sweep (suc n) at x =
      let y = follow program x at (mark_at x at) in
      grows_trans (grows_follow x at (mark_at x at)) (grows_sweep n (at + 1) y)

  grows_sweeps : (n : ℕ) (x : List Mark) → Grows x (sweeps program n x)
  unfolding sweeps
  grows_sweeps zero x = grows_refl x
  grows_sweeps (suc n) x =
      let y = sweep program (length program) start x in
      grows_trans (grows_sweep (length program) start x) (grows_sweeps n y)

-- ---- as many sweeps as the program has bytes are enough: one more changes nothing

pub count_most : (x : List Mark) → count_marked x ≤ length x
unfolding count_marked
count_most [] = omega arith
count_most (unmarked ∷ x) = omega (arith, count_most x)
count_most (marked w r q ∷ x) = omega (arith, count_most x)

-- the same marks, or more of them
abbrev Grown : List Mark → List Mark → Type 0
Grown x y = (y ≡ x) ⊎ (count_marked x < count_marked y)

grown_cons : (a : Mark) {x y : List Mark} → Grown x y → Grown (a ∷ x) (a ∷ y)
unfolding count_marked
grown_cons a (inl e) = inl (ap (λ l. a ∷ l) e)
grown_cons unmarked (inr h) = inr h
grown_cons (marked w r q) (inr h) = inr (omega arith)

grown-count : {x y : List Mark} → Grown x y → count_marked x ≤ count_marked y
grown-count (inl e) = rw e (omega arith)
grown-count (inr h) = omega arith

grown : {x y : List Mark} → Grows x y → Grown x y
unfolding count_marked
grown none = inl refl
grown (same {a = a} g) = grown_cons a (grown g)
grown (more g) = inr (omega (arith, grown-count (grown g)))

module _ (program : List ℕ) where
  -- a sweep changes nothing
  abbrev Still : List Mark → Type 0
  Still x = sweep program (length program) start x ≡ x

  still_on : (n : ℕ) (x : List Mark) → Still x → sweeps program n x ≡ x
  unfolding sweeps
  still_on zero x e = refl
  still_on (suc n) x e = ap (sweeps program n) e ∙ still_on n x e

  still_or_more : (n : ℕ) (x : List Mark) → Still (sweeps program n x) ⊎ (count_marked x + n ≤ count_marked (sweeps program n x))
  unfolding sweeps
  still_or_more zero x = inr (omega arith)
  still_or_more (suc n) x = by (grown (grows_sweep program (length program) start x)) (still_or_more n y)
    where
      y : List Mark
      y = sweep program (length program) start x

      by : Grown x y → Still (sweeps program n y) ⊎ (count_marked y + n ≤ count_marked (sweeps program n y))
          → Still (sweeps program n y) ⊎ (count_marked x + suc n ≤ count_marked (sweeps program n y))
      by (inl e) ih = inl (rw (e, still_on n x e) e)
      by (inr h) (inl s) = inl s
      by (inr h) (inr l) = inr (omega arith)

  -- where a sweep changes nothing, neither does any address that it passes
  still_follow : (n at : ℕ) (x : List Mark) → sweep program n at x ≡ x
      → (b : ℕ) → at ≤ b → b < at + n → follow program x b (mark_at x b) ≡ x
  unfolding sweep
  still_follow zero at x e b l h = absurd (omega arith)
  still_follow (suc n) at x e b l h = by (ℕ_discrete at b) (still_follow n (at + 1) x (rw q at e) b)
    where
      y : List Mark
      y = follow program x at (mark_at x at)

      q : y ≡ x
      q = squeezed (grows_follow program x at (mark_at x at)) (rw e at (grows_sweep program n (at + 1) y))

      by : Dec (at ≡ b) → (at + 1 ≤ b → b < at + 1 + n → follow program x b (mark_at x b) ≡ x) → follow program x b (mark_at x b) ≡ x
      by (yes i) ih = rw (← i) q
      by (no i) ih = ih (omega arith) (omega arith)

-- ---- each mark that the sweeps set is on a way

-- each mark of x is one of f
abbrev Agrees : List Mark → (ℕ → Mark) → Type 0
Agrees x f = (at w r q : ℕ) → mark_at x at ≡ marked w r q → f at ≡ marked w r q

-- a mark after one more was set: it was there, or it is that one
set_cases : (x : List Mark) (i j : ℕ) (v : Mark) {w r q : ℕ} → get_or (set x i (keep_mark (get_or x i unmarked) v)) j unmarked ≡ marked w r q
    → (get_or x j unmarked ≡ marked w r q) ⊎ ((j ≡ i) × (v ≡ marked w r q))
set_cases [] i j v e = inl e
set_cases (unmarked ∷ x) zero zero v e = inr (refl, e)
set_cases (marked a b c ∷ x) zero zero v e = inl e
set_cases (a ∷ x) zero (suc j) v e = inl e
set_cases (a ∷ x) (suc i) zero v e = inl e
set_cases (a ∷ x) (suc i) (suc j) v e = elim (set_cases x i j v e) [ inl f ↦ inl f | inr f ↦ inr (ap suc f.0, f.1) ]

one_cases : (x : List Mark) (at : ℕ) (v : Mark) (b w r q : ℕ) → mark_at (mark_one x at v) b ≡ marked w r q
    → (mark_at x b ≡ marked w r q) ⊎ ((b ≡ at) × (v ≡ marked w r q))
unfolding mark_one mark_at
one_cases x at v b w r q e = by (ltb at start) refl
  where
    by : (t : Bool) → ltb at start ≡ t → (mark_at x b ≡ marked w r q) ⊎ ((b ≡ at) × (v ≡ marked w r q))
    by true h = inl (rw h at e)
    by false h =
        let y = set x (at - start) (keep_mark (get_or x (at - start) unmarked) v) in
        let k = marked-at y b w r q (rw h at e) in
        let l = ltb-false at start h in
        elim (set_cases x (at - start) (b - start) v k.1) [
          | inl u ↦ inl (rw (le-ltb b start k.0) u)
          | inr u ↦ inr (omega (arith, u.0, k.0, l), u.1)
        ]

-- the return that is found first stands at a marked 6C of the routine
return-found : (program : List ℕ) (x : List Mark) (q v s p : ℕ) → return_of program x q ≡ marked v s p
    → (at : ℕ) × (mark_at x at ≡ marked v s q) × (byte_at program at ≡ 0x6C)
unfolding is_return
return-found program x q v s p e =
    let d = found_is (is_return program q) start x e in
    let is-6c = eqb (byte_at program (start + d.0)) 0x6C in
    let same = eqb→eq p q (and_right is-6c (eqb p q) d.2) in
    (start + d.0, mark_index x d.0 ∙ d.1 ∙ ap (marked v s) same, eqb→eq _ _ (and_left is-6c (eqb p q) d.2))

module _ (program : List ℕ) where
  -- each mark of x is on a way
  abbrev Ways : List Mark → Type 0
  Ways x = (at w r q : ℕ) → mark_at x at ≡ marked w r q → Way program at w r q

  -- the mark that an address is to have is
  abbrev WayTo : ℕ × Mark → Type 0
  WayTo n = (w r q : ℕ) → n.1 ≡ marked w r q → Way program n.0 w r q

  ways_each : (x : List Mark) (nexts : List (ℕ × Mark)) → Every WayTo nexts → Ways x → Ways (mark_each x nexts)
  unfolding mark_each
  ways_each x [] t g = g
  ways_each x (n ∷ ns) t g = ways_each (mark_one x n.0 n.1) ns t.1 (λ b w r q e.
      elim (one_cases x n.0 n.1 b w r q e) [ inl u ↦ g b w r q u | inr u ↦ rw u.0 (t.0 w r q u.1) ])

  -- all that follows from an address on a way is
  ways-onward : (x : List Mark) (at w r q : ℕ) → Ways x → Way program at w r q → Every WayTo (onward program x at w r q)
  ways-onward x at w r q g way =
      onward_every WayTo program x at w r q
      (every_among (successors program at w r q) (λ n among v s p h. go way (rw h at among)))
      (λ v s p b h v' r' q' e.
      let d = return-found program x (target_of program at) v s p h in
      let there = return way b (g d.0 v s (target_of program at) d.1) d.2 in
      let i : v ≡ v' = cc in
      let j : r ≡ r' = cc in
      let k : q ≡ q' = cc in
      rw (← i, ← j, ← k) there)

  ways-follow : (x : List Mark) (at : ℕ) (a : Mark) → mark_at x at ≡ a → Ways x → Ways (follow program x at a)
  unfolding follow
  ways-follow x at unmarked e g = g
  ways-follow x at (marked w r q) e g = ways_each x (onward program x at w r q) (ways-onward x at w r q g (g at w r q e)) g

  ways-sweep : (n at : ℕ) (x : List Mark) → Ways x → Ways (sweep program n at x)
  unfolding sweep
  ways-sweep zero at x g = g
  ways-sweep (suc n) at x g =
      ways-sweep n (at + 1) (follow program x at (mark_at x at)) (ways-follow x at (mark_at x at) refl g)

  ways-sweeps : (n : ℕ) (x : List Mark) → Ways x → Ways (sweeps program n x)
  unfolding sweeps
  ways-sweeps zero x g = g
  ways-sweeps (suc n) x g = ways-sweeps n (sweep program (length program) start x) (ways-sweep (length program) start x g)

-- an address at which one more mark changes nothing has a mark already, or that one
still_kept : (x : List Mark) (at : ℕ) (v : Mark) → start ≤ at → at - start < length x → mark_one x at v ≡ x
    → mark_at x at ≡ keep_mark (mark_at x at) v
unfolding mark_one mark_at
still_kept x at v l h s =
    let y = keep_mark (get_or x (at - start) unmarked) v in
    let t : set x (at - start) y ≡ x = rw (le-ltb at start l) at s in
    rw (le-ltb at start l) (sym (ap (λ z. get_or z (at - start) unmarked) t) ∙ get_or-set_same x (at - start) y unmarked h)

-- and the one that it has is that of the assignment
still_one : (x : List Mark) (f : ℕ → Mark) (at : ℕ) (v : Mark) → start ≤ at → at - start < length x → f at ≡ v → Agrees x f
    → mark_one x at v ≡ x → mark_at x at ≡ v
still_one x f at v l h e g s = by (mark_at x at) refl
  where
    by : (a : Mark) → mark_at x at ≡ a → mark_at x at ≡ v
    by unmarked i = still_kept x at v l h s ∙ ap (λ z. keep_mark z v) i
    by (marked w r q) i = i ∙ sym (g at w r q i) ∙ e

module _ (program : List ℕ) (f : ℕ → Mark) where
  -- where nothing changes, each successor has its mark
  still_each : (x : List Mark) (nexts : List (ℕ × Mark)) → length x ≡ length program → Agrees x f
      → Every (GoesOn program f) nexts → mark_each x nexts ≡ x → T (goes_on x nexts)
  unfolding mark_each
  still_each x [] l g t e = tt
  still_each x (n ∷ ns) l g t e =
      let y = mark_one x n.0 n.1 in
      let q : y ≡ x = squeezed (grows_one x n.0 n.1) (rw e at (grows_each y ns)) in
      let m = still_one x f n.0 n.1 t.0.0.0 (omega (arith, t.0.0.0, t.0.0.1)) t.0.1 g q in
      and_both (same_mark (mark_at x n.0) n.1) (goes_on x ns) (rw m (mark_same n.1)) (still_each x ns l g t.1 (rw q at e))

-- ---- the marks to begin with: 0100, with 0 and 0

abbrev pub begun : ℕ → List Mark
begun n = set (replicate n unmarked) 0 (marked 0 0 start)

pub blank_mark : (n i : ℕ) → get_or (replicate n unmarked) i unmarked ≡ unmarked
blank_mark zero i = refl
blank_mark (suc n) zero = refl
blank_mark (suc n) (suc i) = blank_mark n i

blank_count : (n : ℕ) → count_marked (replicate n unmarked) ≡ 0
unfolding count_marked
blank_count zero = refl
blank_count (suc n) = blank_count n

-- it is there, and it is the only one
pub begun_first : (n : ℕ) → 0 < n → (get_or (begun n) 0 unmarked ≡ marked 0 0 start) × (count_marked (begun n) ≡ 1)
unfolding count_marked
begun_first zero h = absurd (omega arith)
begun_first (suc n) h = (refl, ap suc (blank_count n))

pub begun_cases : (n i w r q : ℕ) → get_or (begun n) i unmarked ≡ marked w r q → (i ≡ 0) × (marked 0 0 start ≡ marked w r q)
begun_cases zero i w r q e = not_both e
begun_cases (suc n) zero w r q e = (refl, e)
begun_cases (suc n) (suc i) w r q e = not_both (sym (blank_mark n i) ∙ e)

length-reached : (program : List ℕ) → length (reached program) ≡ length program
unfolding reached
length-reached program =
    grows_length (grows_sweeps program (length program) (begun (length program))) ∙ simp (length-set, length-replicate)

-- ---- "just the addresses reached from 0100"

pub reached_only : (program : List ℕ) → Ways program (reached program)
unfolding reached
reached_only program = ways-sweeps program (length program) (begun (length program)) (λ at w r q e.
    let d = marked-at (begun (length program)) at w r q e in
    let c = begun_cases (length program) (at - start) w r q d.1 in
    let i : at ≡ start = omega (arith, d.0, c.0) in
    let j : 0 ≡ w = cc in
    let k : 0 ≡ r = cc in
    let l : start ≡ q = cc in
    rw (i, ← j, ← k, ← l) begin)

-- ---- marks that every way has

-- marks that go on from 0100 as ways do
pub record Closed (program : List ℕ) (f : ℕ → Mark) : Type 0 where
  pub first : f start ≡ marked 0 0 start
  pub on : (at w r q : ℕ) → f at ≡ marked w r q → Every (λ n. f n.0 ≡ n.1) (successors program at w r q)
  pub back : (at w r q to v s : ℕ) → f at ≡ marked w r q → byte_at program at ≡ 0x60
      → f to ≡ marked v s (target_of program at) → byte_at program to ≡ 0x6C → f (after_of program at) ≡ marked v r q

pub along : (program : List ℕ) (f : ℕ → Mark) → Closed program f → {at w r q : ℕ} → Way program at w r q → f at ≡ marked w r q
along program f c begin = c.first
along program f c (go {at} {w} {r} {q} way among) =
    among_every (λ n. f n.0 ≡ n.1) (successors program at w r q) (c.on at w r q (along program f c way)) among
along program f c (return {at} {w} {r} {q} {to} {v} {s} call b end d) =
    c.back at w r q to v s (along program f c call) b (along program f c end) d

pub assigned_closed : (program : List ℕ) (f : ℕ → Mark) → Assignment program f → Closed program f
assigned_closed program f assigned =
    record {
      first = assigned.first;
      on = λ at w r q e. every_map (λ n g. g.1) (successors program at w r q) (assigned.rules at w r q e).on;
      back = λ at w r q to v s e b g d.
          let call : Called program f (target_of program at) =
          record { at = at; work = w; ret = r; routine = q; here = e; calls = b; enters = refl } in
          (assigned.back (target_of program at) v call record { at = to; ret = s; here = g; returns = d }).1;
    }

-- the routine on a way is 0100, or the target of a JSI on a way
module _ (program : List ℕ) where
  abbrev Led : ℕ → Type 0
  Led q = (q ≡ start) ⊎ ((at : ℕ) × (w : ℕ) × (r : ℕ) × (p : ℕ) × Way program at w r p × (byte_at program at ≡ 0x60) × (target_of program at ≡ q))

  abbrev LedTo : ℕ × Mark → Type 0
  LedTo n = (v s p : ℕ) → n.1 ≡ marked v s p → Led p

  led : {at w r q : ℕ} → Way program at w r q → Led q
  led begin = inl refl
  led (go {at} {w} {r} {q} way among) =
      among_every LedTo (successors program at w r q)
      (successors_by (Every LedTo) program at w r q tt
      (λ a b. (same _ _ (led way), (same _ _ (led way), tt)))
      (λ a. (same _ _ (led way), tt))
      (λ b. (λ v s p e. inr (at, w, r, q, way, b, cc), tt))) among _ _ _ refl
    where
      same : (v s : ℕ) → Led q → (v' s' p : ℕ) → marked v s q ≡ marked v' s' p → Led p
      same v s l v' s' p e = let i : q ≡ p = cc in rw (← i) l
  led (return call b end d) = led call

-- what the last test says
goes_each : (x : List Mark) (nexts : List (ℕ × Mark)) → T (goes_on x nexts) → Every (λ n. mark_at x n.0 ≡ n.1) nexts
goes_each x [] t = tt
goes_each x (n ∷ ns) t =
    let same = same_mark (mark_at x n.0) n.1 in
    (same_mark_lem _ _ (and_left same (goes_on x ns) t), goes_each x ns (and_right same (goes_on x ns) t))

-- ---- what is reached passes the test, if there is an assignment

module _ (program : List ℕ) (f : ℕ → Mark) (assigned : Assignment program f) where
  -- "which every assignment marks with the same depths"
  pub reached-least : Agrees (reached program) f
  reached-least at w r q e = along program f (assigned_closed program f assigned) (reached_only program at w r q e)

  some : 0 < length program
  some =
      let h = assigned.rules start 0 0 start assigned.first in
      omega (arith, h.inside, length_is (byte_at program start))

  reached-first : mark_at (reached program) start ≡ marked 0 0 start
  unfolding reached mark_at
  reached-first = stays 0 (grows_sweeps program (length program) (begun (length program))) (begun_first (length program) some).0

  reached_still : Still program (reached program)
  unfolding reached
  reached_still = elim (still_or_more program (length program) (begun (length program))) [
    | inl s ↦ s
    | inr l ↦ absurd (omega (arith, l, count_most (reached program), length-reached program, (begun_first (length program) some).1))
  ]

  -- all that follows from a marked address has its mark
  reached-on : (at w r q : ℕ) → mark_at (reached program) at ≡ marked w r q
      → T (goes_on (reached program) (onward program (reached program) at w r q))
  unfolding follow
  reached-on at w r q e =
      let x = reached program in
      let nexts = onward program x at w r q in
      let i = marked_within program x at w r q (length-reached program) e in
      let s : mark_each x nexts ≡ x = rw (e, follow) at (still_follow program (length program) start x reached_still at i.0 i.1) in
      let rule = assigned.rules at w r q (reached-least at w r q e) in
      still_each program f x nexts (length-reached program) reached-least
      (onward_every (GoesOn program f) program x at w r q rule.on (λ v s p b h.
      let d = return-found program x (target_of program at) v s p h in
      let call : Called program f (target_of program at) =
      record { at = at; work = w; ret = r; routine = q; here = reached-least at w r q e; calls = b; enters = refl } in
      assigned.back (target_of program at) v call
      record { at = d.0; ret = s; here = reached-least d.0 v s (target_of program at) d.1; returns = d.2 })) s

  -- a mark that passes the test is found
  found-one : (test : ℕ → Mark → Bool) → ((b : ℕ) → T (test b unmarked) → ⊥) → (at w r q : ℕ) → mark_at (reached program) at ≡ marked w r q
      → T (test at (marked w r q)) → T (is_marked (found test start (reached program)))
  found-one test not_None at w r q e t =
      let d = marked-at (reached program) at w r q e in
      let i : start + (at - start) ≡ at = omega (arith, d.0) in
      found_any test not_None start (reached program) (at - start) (rw (i, d.1) t)

  -- the first return of a routine has the working depth of each
  return_depth : (at w r q : ℕ) → mark_at (reached program) at ≡ marked w r q → byte_at program at ≡ 0x6C
      → (s : ℕ) × (p : ℕ) × (return_of program (reached program) q ≡ marked w s p)
  unfolding is_return
  return_depth at w r q e b =
      let x = reached program in
      let d = mark_parts (return_of program x q) (found-one (is_return program q) (λ b t. t) at w r q e (rw b (eqb_refl q))) in
      let g = return-found program x q d.0 d.1 d.2 d.3 in
      let mine : Leaves program f q w = record { at = at; ret = r; here = reached-least at w r q e; returns = b } in
      let other : Leaves program f q d.0 = record { at = g.0; ret = d.1; here = reached-least g.0 d.0 d.1 q g.1; returns = g.2 } in
      (d.1, d.2, d.3 ∙ ap (λ v. marked v d.1 d.2) (assigned.one q d.0 w other mine))

  reached_closed : Closed program (mark_at (reached program))
  unfolding returned
  reached_closed =
      record {
        first = reached-first;
        on = λ at w r q e. every_first _ (successors program at w r q) (returned program (reached program) at r q) (each at w r q e);
        back = λ at w r q to v s e b g d.
            let h = return_depth to v s (target_of program at) g d in
            let z = every_last _ (successors program at w r q) (returned program (reached program) at r q) (each at w r q e) in
            (rw (returned, b, h.2) at z).0;
      }
    where
      each : (at w r q : ℕ) → mark_at (reached program) at ≡ marked w r q
          → Every (λ n. mark_at (reached program) n.0 ≡ n.1) (onward program (reached program) at w r q)
      each at w r q e = goes_each (reached program) (onward program (reached program) at w r q) (reached-on at w r q e)

  abbrev Routine : ℕ → Type 0
  Routine q = (q ≡ start) ⊎ Called program (mark_at (reached program)) q

  reached-routine : (at w r q : ℕ) → mark_at (reached program) at ≡ marked w r q → Routine q
  reached-routine at w r q e = elim (led program (reached_only program at w r q e)) [
    | inl h ↦ inl h
    | inr (c, v, s, p, way, b, t) ↦
        inr record { at = c; work = v; ret = s; routine = p; here = along program _ reached_closed way; calls = b; enters = t }
  ]

  -- the routine's own address is marked, as in the assignment
  floor_same : (q : ℕ) → Routine q → floor (mark_at (reached program)) q ≡ floor f q
  floor_same q (inl e) = rw (e, reached-first, assigned.first)
  floor_same q (inr c) =
      let x = reached program in
      let on = reached_closed.on c.at c.work c.ret c.routine c.here in
      let e = call-on (λ n. mark_at x n.0 ≡ n.1) program c.at c.work c.ret c.routine c.calls on in
      let g : mark_at x q ≡ marked c.work (c.ret + 2) q = rw c.enters at e in
      rw (g, reached-least q c.work (c.ret + 2) q g)

  led_test : (q : ℕ) → Routine q → T (eqb q start || is_marked (call_of program (reached program) q))
  unfolding is_call
  led_test q (inl e) = or_left (eqb q start) _ (rw e tt)
  led_test q (inr c) =
      or_right (eqb q start) _
      (found-one (is_call program q) (λ b t. t) c.at c.work c.ret c.routine c.here (rw (c.calls, c.enters) (eqb_refl q)))

  return_test : (at w r q : ℕ) → mark_at (reached program) at ≡ marked w r q → byte_at program at ≡ 0x6C
      → T (has_work w (return_of program (reached program) q))
  return_test at w r q e b = rw (return_depth at w r q e b).2 (eqb_refl w)

  routines_test : (at w r q : ℕ) → mark_at (reached program) at ≡ marked w r q
      → T (all (routine_tests program (reached program) at w r q))
  unfolding routine_tests
  routines_test at w r q e = by (eqb (byte_at program at) 0x6C) refl
    where
      x : List Mark
      x = reached program

      rule : Rules program f at w r q
      rule = assigned.rules at w r q (reached-least at w r q e)

      mine : Routine q
      mine = reached-routine at w r q e

      known : Bool
      known = eqb q start || is_marked (call_of program x q)

      low : Bool
      low = leb (floor (mark_at x) q + taken_from returning (byte_at program at)) r

      level : Bool
      level = eqb r (floor (mark_at x) q)

      inner : Bool
      inner = not (eqb q start)

      one : Bool
      one = has_work w (return_of program x q)

      by : (b : Bool) → eqb (byte_at program at) 0x6C ≡ b
          → T (all (known ∷ (b || low) ∷ (not b || (level && inner && one)) ∷ []))
      by true h =
          let i = eqb-true _ _ h in
          let l : T level = rw (floor_same q mine, eq-eqb r (floor f q) (rule.low i)) tt in
          let n : T inner = rw (ne_eqb q start (rule.inner i)) tt in
          all_three known true (level && inner && one) (led_test q mine) tt (and_both (level && inner) one (and_both level inner l n) (return_test at w r q e i))
      by false h =
          let l : T low = rw (floor_same q mine, le-leb _ _ (rule.above (eqb-false _ _ h))) tt in
          all_three known low true (led_test q mine) l tt

  reached-fits : (at : ℕ) (a : Mark) → mark_at (reached program) at ≡ a → T (fits program (reached program) at a)
  unfolding fits
  reached-fits at unmarked e = tt
  reached-fits at (marked w r q) e =
      let x = reached program in
      let depths = all (rule_tests program at w r) in
      let routines = all (routine_tests program x at w r q) in
      and_both (depths && routines) (goes_on x (onward program x at w r q))
      (and_both depths routines (rules_test program f at w r q (assigned.rules at w r q (reached-least at w r q e))) (routines_test at w r q e))
      (reached-on at w r q e)

  pub reached-assigns : T (admitted program)
  unfolding admitted assigns
  reached-assigns =
      let x = reached program in
      let a = eqb (length x) (length program) in
      let b = same_mark (mark_at x start) (marked 0 0 start) in
      and_both (a && b) (fits_from program x start x)
      (and_both a b (rw (length-reached program) (eqb_refl (length program))) (rw reached-first tt))
      (every_fits program x start x (λ i. reached-fits (start + i) _ (mark_index x i)))

-- "Admitted exactly if an assignment exists."
pub admitted_exactly : (program : List ℕ) → T (admitted program) ↔ Assignable program
unfolding admitted
admitted_exactly program =
    (λ t. (mark_at (reached program), assigns_is program (reached program) t), λ a. reached-assigns program a.0 a.1)
