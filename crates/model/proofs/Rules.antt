-- The test of a list of marks is the rules: a list that passes is an assignment. Assumes nothing.
use mathlib.Core.Path.{◌≡◌, refl, ◌∙◌}
use mathlib.Core.Logic.{◌⊎◌, inl, inr}
use mathlib.Core.Bool.{Bool, true, false, cond, not, ◌&&◌}
use mathlib.Core.List.{List, [], ◌∷◌, ◌++◌}
use Prim.Native.Nat.{ℕ, zero, suc, ◌+◌, ◌-◌, ◌≤◌, ◌<◌}
use native.Mathlib.Nat.{add-zero}
use native.Mathlib.Omega.{arith}
use lib.Dec.{T, eqb, ltb, eqb→eq, eqb_refl, leb→le}
use lib.ListN.{length, get_or}
use borrow.Author.Tests.{eqb-true, eqb-false, ltb-false, le-ltb, le-leb}
use Rattle.model.specs.Bytes.{Every}
use Rattle.model.specs.Machine.{start}
use Rattle.model.specs.Admission.{Mark, byte_at, Within, allowed, mark_after, after_of, target_of, successors, GoesOn, Called, Leaves, floor, Rules, Assignment, mark_at, same_mark, all, found, is_call, call_of, return_of, is_marked, has_work, rule_tests, routine_tests, comes_back, returned, onward, goes_on, fits, fits_from, assigns}
use Rattle.model.specs.Admission.Mark.{unmarked, marked}
use Rattle.model.proofs.Computing.{decoding}
use Rattle.model.proofs.Tests.{and_left, and_right, and_both, or_cases, is_true, not-true, one_of_lem}

-- ---- marks

pub same_mark_lem : (a b : Mark) → T (same_mark a b) → a ≡ b
same_mark_lem unmarked unmarked t = refl
same_mark_lem unmarked (marked w r q) t = absurd t
same_mark_lem (marked w r q) unmarked t = absurd t
same_mark_lem (marked w r q) (marked v s p) t =
    let u = and_left (eqb w v && eqb r s) (eqb q p) t in
    simp (eqb→eq w v (and_left (eqb w v) (eqb r s) u), eqb→eq r s (and_right (eqb w v) (eqb r s) u), eqb→eq q p (and_right (eqb w v && eqb r s) (eqb q p) t))

pub mark_same : (a : Mark) → T (same_mark a a)
mark_same unmarked = tt
mark_same (marked w r q) =
    and_both (eqb w w && eqb r r) (eqb q q) (and_both (eqb w w) (eqb r r) (eqb_refl w) (eqb_refl r)) (eqb_refl q)

pub not_both : {A : Type 0} {w r q : ℕ} → unmarked ≡ marked w r q → A
not_both e = let z : ◌≡◌ {A = ℕ} 0 1 = cc in absurd (omega arith)

-- a marked address is not below 0100, and is one of those that the list has marks for
pub marked-at : (marks : List Mark) (at w r q : ℕ) → mark_at marks at ≡ marked w r q
    → (start ≤ at) × (get_or marks (at - start) unmarked ≡ marked w r q)
unfolding mark_at
marked-at marks at w r q e = by (ltb at start) refl
  where
    by : (t : Bool) → ltb at start ≡ t → (start ≤ at) × (get_or marks (at - start) unmarked ≡ marked w r q)
    by true h = not_both (rw h at e)
    by false h = (ltb-false at start h, rw h at e)

pub marked-inside : (marks : List Mark) (i w r q : ℕ) → get_or marks i unmarked ≡ marked w r q → i < length marks
marked-inside [] i w r q e = not_both e
marked-inside (x ∷ marks) zero w r q e = omega arith
marked-inside (x ∷ marks) (suc i) w r q e = omega (arith, marked-inside marks i w r q e)

pub marked_within : (program : List ℕ) (marks : List Mark) (at w r q : ℕ) → length marks ≡ length program
    → mark_at marks at ≡ marked w r q → Within program at
marked_within program marks at w r q l e =
    let d = marked-at marks at w r q e in
    (d.0, omega (arith, marked-inside marks (at - start) w r q d.1, d.0))

-- ---- the first mark that passes a test

-- it is one of them
pub found_is : (test : ℕ → Mark → Bool) (at : ℕ) (xs : List Mark) {w r q : ℕ} → found test at xs ≡ marked w r q
    → (i : ℕ) × (get_or xs i unmarked ≡ marked w r q) × T (test (at + i) (marked w r q))
unfolding found
found_is test at [] e = not_both e
found_is test at (x ∷ xs) {w} {r} {q} e = by (test at x) refl (λ f. found_is test (at + 1) xs f)
  where
    by : (b : Bool) → test at x ≡ b
        → (found test (at + 1) xs ≡ marked w r q → (i : ℕ) × (get_or xs i unmarked ≡ marked w r q) × T (test (at + 1 + i) (marked w r q)))
        → (i : ℕ) × (get_or (x ∷ xs) i unmarked ≡ marked w r q) × T (test (at + i) (marked w r q))
    by true h ih =
        let f : x ≡ marked w r q = rw (found, h) at e in
        let z : at + 0 ≡ at = omega arith in
        (0, f, rw (z, ← f, h) tt)
    by false h ih =
        let d = ih (rw (found, h) at e) in
        let z : at + suc d.0 ≡ at + 1 + d.0 = omega arith in
        (suc d.0, d.1, rw z d.2)

-- and where one of them passes, there is a first
pub found_any : (test : ℕ → Mark → Bool) → ((b : ℕ) → T (test b unmarked) → ⊥)
    → (at : ℕ) (xs : List Mark) (i : ℕ) → T (test (at + i) (get_or xs i unmarked)) → T (is_marked (found test at xs))
unfolding found
found_any test none at [] i t = absurd (none _ t)
found_any test none at (x ∷ xs) i t = by (test at x) refl i t (λ i u. found_any test none (at + 1) xs i u)
  where
    mine : (x : Mark) → T (test at x) → T (is_marked x)
    mine unmarked u = absurd (none at u)
    mine (marked w r q) u = tt

    by : (b : Bool) → test at x ≡ b → (i : ℕ) → T (test (at + i) (get_or (x ∷ xs) i unmarked))
        → ((i : ℕ) → T (test (at + 1 + i) (get_or xs i unmarked)) → T (is_marked (found test (at + 1) xs)))
        → T (is_marked (cond b x (found test (at + 1) xs)))
    by true h i u ih = mine x (rw h tt)
    by false h zero u ih = let z : at + 0 ≡ at = omega arith in absurd (rw (z, h) at u)
    by false h (suc i) u ih = let z : at + suc i ≡ at + 1 + i = omega arith in ih i (rw z at u)

-- a mark that there is has depths and a routine
pub mark_parts : (a : Mark) → T (is_marked a) → (w : ℕ) × (r : ℕ) × (q : ℕ) × (a ≡ marked w r q)
mark_parts unmarked t = absurd t
mark_parts (marked w r q) t = (w, r, q, refl)

-- the mark of place i
pub mark_index : (marks : List Mark) (i : ℕ) → mark_at marks (start + i) ≡ get_or marks i unmarked
unfolding mark_at
mark_index marks i =
    let j : start + i - start ≡ i = omega arith in
    rw (le-ltb (start + i) start (omega arith), j)

-- ---- the addresses that follow

-- what holds of the lists of each kind holds of the successors of an address
pub successors_by : (P : List (ℕ × Mark) → Type 0) (program : List ℕ) (at w r q : ℕ)
    → P []
    → ((a b : ℕ) → P ((a, mark_after (byte_at program at) w r q) ∷ (b, mark_after (byte_at program at) w r q) ∷ []))
    → ((a : ℕ) → P ((a, mark_after (byte_at program at) w r q) ∷ []))
    → (byte_at program at ≡ 0x60 → P ((target_of program at, mark_after (byte_at program at) w r (target_of program at)) ∷ []))
    → P (successors program at w r q)
unfolding successors
successors_by P program at w r q none two one call =
    by (eqb byte 0x00) (eqb byte 0x20) (eqb byte 0x40) (eqb byte 0x60) (eqb byte 0x6C) refl _
  where
    byte : ℕ
    byte = byte_at program at

    b : ℕ
    b = target_of program at

    mark : ℕ → Mark
    mark p = mark_after byte w r p

    by : (brk jci jmi jsi return : Bool) → eqb byte 0x60 ≡ jsi → (a : ℕ)
        → P (cond brk [] (cond jci ((a, mark q) ∷ (b, mark q) ∷ []) (cond jmi ((b, mark q) ∷ []) (cond jsi ((b, mark b) ∷ []) (cond return [] ((a, mark q) ∷ []))))))
    by true jci jmi jsi return e a = none
    by false true jmi jsi return e a = two a b
    by false false true jsi return e a = one b
    by false false false true return e a = call (eqb-true _ _ e)
    by false false false false true e a = none
    by false false false false false e a = one a

-- the one of a call
pub call-on : (P : ℕ × Mark → Type 0) (program : List ℕ) (at w r q : ℕ) → byte_at program at ≡ 0x60
    → Every P (successors program at w r q) → P (target_of program at, marked w (r + 2) (target_of program at))
unfolding successors decoding
call-on P program at w r q b t =
    let w' : w - 0 + 0 ≡ w = omega arith in
    let r' : r - 0 + 2 ≡ r + 2 = omega arith in
    (rw (successors, b, w', r') at t).0

-- what holds of an empty list and of the address after a call holds of what its returns add
pub returned_by : (P : List (ℕ × Mark) → Type 0) (program : List ℕ) (marks : List Mark) (at r q : ℕ)
    → P []
    → ((v s p : ℕ) → byte_at program at ≡ 0x60 → return_of program marks (target_of program at) ≡ marked v s p
    → P ((after_of program at, marked v r q) ∷ []))
    → P (returned program marks at r q)
unfolding returned
returned_by P program marks at r q none some = by (eqb (byte_at program at) 0x60) refl (return_of program marks (target_of program at)) refl
  where
    by : (b : Bool) → eqb (byte_at program at) 0x60 ≡ b → (a : Mark) → return_of program marks (target_of program at) ≡ a
        → P (elim b [ true ↦ comes_back (after_of program at) r q (return_of program marks (target_of program at)) | false ↦ [] ])
    by true e unmarked f = rw f none
    by true e (marked v s p) f = rw f (some v s p (eqb-true _ _ e) f)
    by false e a f = none

every_both : {A : Type 0} (P : A → Type 0) (xs ys : List A) → Every P xs → Every P ys → Every P (xs ++ ys)
every_both P [] ys t u = u
every_both P (x ∷ xs) ys t u = (t.0, every_both P xs ys t.1 u)

pub every_first : {A : Type 0} (P : A → Type 0) (xs ys : List A) → Every P (xs ++ ys) → Every P xs
every_first P [] ys t = tt
every_first P (x ∷ xs) ys t = (t.0, every_first P xs ys t.1)

pub every_last : {A : Type 0} (P : A → Type 0) (xs ys : List A) → Every P (xs ++ ys) → Every P ys
every_last P [] ys t = t
every_last P (x ∷ xs) ys t = every_last P xs ys t.1

-- what holds of the successors and of what returns add holds of all of them
pub onward_every : (P : ℕ × Mark → Type 0) (program : List ℕ) (marks : List Mark) (at w r q : ℕ)
    → Every P (successors program at w r q)
    → ((v s p : ℕ) → byte_at program at ≡ 0x60 → return_of program marks (target_of program at) ≡ marked v s p
    → P (after_of program at, marked v r q))
    → Every P (onward program marks at w r q)
onward_every P program marks at w r q t one =
    every_both P (successors program at w r q) (returned program marks at r q) t
    (returned_by (Every P) program marks at r q tt (λ v s p e f. (one v s p e f, tt)))

-- each of them has a mark
onward-marked : (program : List ℕ) (marks : List Mark) (at w r q : ℕ) → Every (λ n. T (is_marked n.1)) (onward program marks at w r q)
onward-marked program marks at w r q =
    onward_every (λ n. T (is_marked n.1)) program marks at w r q
    (successors_by (Every (λ n. T (is_marked n.1))) program at w r q tt (λ a b. (tt, (tt, tt))) (λ a. (tt, tt)) (λ e. (tt, tt)))
    (λ v s p e f. tt)

-- ---- the rules, from the test

on-marks : (program : List ℕ) (marks : List Mark) → length marks ≡ length program → (nexts : List (ℕ × Mark))
    → Every (λ n. T (is_marked n.1)) nexts → T (goes_on marks nexts) → Every (GoesOn program (mark_at marks)) nexts
on-marks program marks l [] m t = tt
on-marks program marks l (n ∷ ns) m t =
    let same = same_mark (mark_at marks n.0) n.1 in
    let e = same_mark_lem (mark_at marks n.0) n.1 (and_left same (goes_on marks ns) t) in
    let d = mark_parts n.1 m.0 in
    ((marked_within program marks n.0 _ _ _ l (e ∙ d.3), e), on-marks program marks l ns m.1 (and_right same (goes_on marks ns) t))

-- what the tests of an address say
pub record Fits (program : List ℕ) (marks : List Mark) (at w r q : ℕ) : Type 0 where
  pub depths : T (all (rule_tests program at w r))
  pub routines : T (all (routine_tests program marks at w r q))
  pub on : T (goes_on marks (onward program marks at w r q))

fits_parts : (program : List ℕ) (marks : List Mark) (at w r q : ℕ) → T (fits program marks at (marked w r q)) → Fits program marks at w r q
unfolding fits
fits_parts program marks at w r q t =
    let a = all (rule_tests program at w r) in
    let b = all (routine_tests program marks at w r q) in
    let c = goes_on marks (onward program marks at w r q) in
    let u = and_left (a && b) c t in
    record { depths = and_left a b u; routines = and_right a b u; on = and_right (a && b) c t }

has_work_lem : (w : ℕ) (a : Mark) → T (has_work w a) → (r : ℕ) × (q : ℕ) × (a ≡ marked w r q)
has_work_lem w unmarked t = absurd t
has_work_lem w (marked v r q) t = (r, q, rw (eqb→eq v w t))

module _ (program : List ℕ) (marks : List Mark) (size : length marks ≡ length program) (tests : (at w r q : ℕ) → mark_at marks at ≡ marked w r q → Fits program marks at w r q) where
  -- the tests of a 6C
  return_tests : (at w r q : ℕ) → mark_at marks at ≡ marked w r q → byte_at program at ≡ 0x6C
      → (r ≡ floor (mark_at marks) q) × (q ≡ start → ⊥) × T (has_work w (return_of program marks q))
  unfolding routine_tests
  return_tests at w r q e b =
      let low = eqb r (floor (mark_at marks) q) in
      let inner = not (eqb q start) in
      let one = has_work w (return_of program marks q) in
      let t : T (low && inner && one) = rw b at (one_of_lem (routine_tests program marks at w r q) 2 (tests at w r q e).routines) in
      let u = and_left (low && inner) one t in
      let n = not-true (eqb q start) (and_right low inner u) in
      (eqb→eq _ _ (and_left low inner u), λ f. eqb-false q start n f, and_right (low && inner) one t)

  -- the return that is found first has the working depth of each
  return-found : (q v : ℕ) → Leaves program (mark_at marks) q v → (r : ℕ) × (p : ℕ) × (return_of program marks q ≡ marked v r p)
  return-found q v x = has_work_lem v (return_of program marks q) (return_tests x.at v x.ret q x.here x.returns).2

  routine-led : (at w r q : ℕ) → Fits program marks at w r q → (q ≡ start) ⊎ Called program (mark_at marks) q
  unfolding routine_tests is_call
  routine-led at w r q t =
      elim (or_cases (eqb q start) (is_marked (call_of program marks q)) (one_of_lem (routine_tests program marks at w r q) 0 t.routines)) [
        | inl u ↦ inl (eqb→eq q start u)
        | inr u ↦
            let d = mark_parts (call_of program marks q) u in
            let f = found_is (is_call program q) start marks d.3 in
            let jsi = eqb (byte_at program (start + f.0)) 0x60 in
            let goal = eqb (target_of program (start + f.0)) q in
            inr record {
              at = start + f.0;
              work = d.0;
              ret = d.1;
              routine = d.2;
              here = mark_index marks f.0 ∙ f.1;
              calls = eqb→eq _ _ (and_left jsi goal f.2);
              enters = eqb→eq _ _ (and_right jsi goal f.2);
            }
      ]

  -- all that follows from a marked address goes on
  onward-on : (at w r q : ℕ) → mark_at marks at ≡ marked w r q → Every (GoesOn program (mark_at marks)) (onward program marks at w r q)
  onward-on at w r q e =
      on-marks program marks size (onward program marks at w r q) (onward-marked program marks at w r q) (tests at w r q e).on

  -- the rules at a marked address, from the tests
  rules_of : (at w r q : ℕ) → mark_at marks at ≡ marked w r q → Rules program (mark_at marks) at w r q
  unfolding rule_tests routine_tests
  rules_of at w r q e =
      let t = tests at w r q e in
      let depths = rule_tests program at w r in
      let u = t.depths in
      record {
        work_low = leb→le _ _ (one_of_lem depths 0 u);
        ret_low = leb→le _ _ (one_of_lem depths 1 u);
        placed = (marked-at marks at w r q e).0;
        inside = leb→le _ _ (one_of_lem depths 2 u);
        fine = one_of_lem depths 3 u;
        work = leb→le _ _ (one_of_lem depths 4 u);
        ret = leb→le _ _ (one_of_lem depths 5 u);
        work_top = leb→le _ _ (one_of_lem depths 6 u);
        ret_top = leb→le _ _ (one_of_lem depths 7 u);
        on = every_first (GoesOn program (mark_at marks)) (successors program at w r q) (returned program marks at r q) (onward-on at w r q e);
        routine = routine-led at w r q t;
        above = λ n.
            elim (or_cases (eqb (byte_at program at) 0x6C) _ (one_of_lem (routine_tests program marks at w r q) 1 t.routines)) [
              | inl y ↦ absurd (n (eqb→eq _ _ y))
              | inr y ↦ leb→le _ _ y
            ];
        low = λ b. (return_tests at w r q e b).0;
        inner = λ b. (return_tests at w r q e b).1;
      }

  -- two returns of a routine
  one_depth : (q v w : ℕ) → Leaves program (mark_at marks) q v → Leaves program (mark_at marks) q w → v ≡ w
  one_depth q v w x y =
      let f = return-found q v x in
      let g = return-found q w y in
      cc (f.2, g.2)

  -- a call of a routine, and a return of it
  comes_back_lem : (q v : ℕ) (c : Called program (mark_at marks) q) → Leaves program (mark_at marks) q v
      → GoesOn program (mark_at marks) (after_of program c.at, marked v c.ret c.routine)
  unfolding returned
  comes_back_lem q v c y =
      let g = return-found q v y in
      let on = onward-on c.at c.work c.ret c.routine c.here in
      let z = every_last (GoesOn program (mark_at marks)) (successors program c.at c.work c.ret c.routine) (returned program marks c.at c.ret c.routine) on in
      (rw (returned, c.calls, c.enters, g.2) at z).0

-- the test of each address
fits-at : (program : List ℕ) (marks : List Mark) (at : ℕ) (xs : List Mark) (i : ℕ)
    → T (fits_from program marks at xs) → T (fits program marks (at + i) (get_or xs i unmarked))
unfolding fits_from fits
fits-at program marks at [] i t = tt
fits-at program marks at (x ∷ xs) zero t =
    simp add-zero (and_left (fits program marks at x) (fits_from program marks (at + 1) xs) t)
fits-at program marks at (x ∷ xs) (suc i) t =
    let e : at + suc i ≡ at + 1 + i = omega arith in
    rw e (fits-at program marks (at + 1) xs i (and_right (fits program marks at x) (fits_from program marks (at + 1) xs) t))

-- the three parts of the whole test
pub parts : (program : List ℕ) (marks : List Mark) → T (assigns program marks)
    → (length marks ≡ length program) × (mark_at marks start ≡ marked 0 0 start) × T (fits_from program marks start marks)
unfolding assigns
parts program marks t =
    let a = eqb (length marks) (length program) in
    let b = same_mark (mark_at marks start) (marked 0 0 start) in
    let c = fits_from program marks start marks in
    let u = and_left (a && b) c t in
    (eqb→eq _ _ (and_left a b u), same_mark_lem (mark_at marks start) (marked 0 0 start) (and_right a b u), and_right (a && b) c t)

-- a list that passes is an assignment
pub assigns_is : (program : List ℕ) (marks : List Mark) → T (assigns program marks) → Assignment program (mark_at marks)
assigns_is program marks t =
    let p = parts program marks t in
    let size = p.0 in
    let tests : (at w r q : ℕ) → mark_at marks at ≡ marked w r q → Fits program marks at w r q = λ at w r q e.
    let d = marked-at marks at w r q e in
    let i : start + (at - start) ≡ at = omega (arith, d.0) in
    fits_parts program marks at w r q (rw (i, d.1) at (fits-at program marks start marks (at - start) p.2)) in
    record {
      first = p.1;
      rules = rules_of program marks size tests;
      one = one_depth program marks size tests;
      back = comes_back_lem program marks size tests;
    }

-- ---- the test, from the rules

pub rules_test : (program : List ℕ) (marks : ℕ → Mark) (at w r q : ℕ) → Rules program marks at w r q → T (all (rule_tests program at w r))
unfolding rule_tests
rules_test program marks at w r q h =
    let fine = is_true (allowed (byte_at program at)) h.fine in
    rw (le-leb _ _ h.work_low, le-leb _ _ h.ret_low, le-leb _ _ h.inside, fine)
    (rw (le-leb _ _ h.work, le-leb _ _ h.ret, le-leb _ _ h.work_top, le-leb _ _ h.ret_top) tt)

pub every_fits : (program : List ℕ) (marks : List Mark) (at : ℕ) (xs : List Mark)
    → ((i : ℕ) → T (fits program marks (at + i) (get_or xs i unmarked))) → T (fits_from program marks at xs)
unfolding fits_from
every_fits program marks at [] h = tt
every_fits program marks at (x ∷ xs) h =
    and_both (fits program marks at x) (fits_from program marks (at + 1) xs) (rw add-zero at (h 0))
    (every_fits program marks (at + 1) xs (λ i. let e : at + 1 + i ≡ at + suc i = omega arith in rw e (h (suc i))))
