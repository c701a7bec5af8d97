-- Laws of calls and returns in the worklist. Assumes nothing.
use mathlib.Core.Path.{◌≡◌, sym, ap, ◌∙◌}
use mathlib.Core.List.{List}
use Prim.Native.Nat.{ℕ, suc, ◌+◌, ◌-◌, ◌≤◌, ◌<◌}
use native.Mathlib.Decide.{ℕ_discrete, dec_lt}
use native.Mathlib.Omega.{arith}
use lib.ListN.{length, get_or, set, length-set}
use lib.Seq.{get_or-set_same, get_or-set_other}
use Rattle.model.specs.Machine.{start}
use Rattle.model.specs.Admission.{admit_most, byte_at, target_of, mark_in}
use Rattle.model.specs.Admission.Mark.{marked}
use Rattle.worklist.specs.Worklist.{Passing, Listed, Extended, placed, Calls, Last, Back, AllBack, Left, returned_at, HasReturn, Waiting}
use Rattle.worklist.proofs.Listed.{same_parts, grown_left}

-- ---- one more place was visited

-- the last call below the next place is the same, if there is none at this one
last_next : (program queue : List ℕ) (q n j : ℕ) → (Calls program queue q n → ⊥) → Last program queue q n j → Last program queue q (n + 1) j
last_next program queue q n j other l =
    record {
      low = omega (arith, l.low);
      this = l.this;
      none = λ k a b c. elim (ℕ_discrete k n) [ yes e ↦ other (rw e at c) | no e ↦ l.none k a (omega arith) c ];
    }

-- two returns that `routines` has for the same routine are one
pub same_return : (program sheet routines : List ℕ) (q v w : ℕ) → HasReturn program sheet routines q v → HasReturn program sheet routines q w → v ≡ w
same_return program sheet routines q v w (j, e, x) (k, f, y) =
    let i : j ≡ k = omega (arith, e, f) in
    (same_parts (rw i at x.here) y.here).0

module _ (program sheet queue : List ℕ) (head : ℕ) (routines before : List ℕ) (g : Waiting program sheet queue head routines before)
    (pass : Passing program sheet (placed queue head)) where
  -- this place passes too
  passed-next : (k : ℕ) → k < head + 1 → Passing program sheet (placed queue k)
  passed-next k h = elim (ℕ_discrete k head) [ yes i ↦ rw i pass | no i ↦ g.passed k (omega arith) ]

  -- neither a call nor a return
  pub next-other : (byte_at program (placed queue head) ≡ 0x60 → ⊥) → (byte_at program (placed queue head) ≡ 0x6C → ⊥)
      → Waiting program sheet queue (head + 1) routines before
  next-other not_a_call not_a_return =
      record {
        routines_size = g.routines_size;
        before_size = g.before_size;
        passed = passed-next;
        returned = λ k v r q h e f. elim (ℕ_discrete k head) [ yes i ↦ absurd (not_a_return (rw i at f)) | no i ↦ g.returned k v r q (omega arith) e f ];
        leaves = g.leaves;
        back = λ k q v h l c e. elim (ℕ_discrete k head) [ yes i ↦ absurd (not_a_call (rw i at c.0)) | no i ↦ g.back k q v (omega arith) l c e ];
        lasts = λ q l m. last_next program queue q head (get_or routines (q - start) 0) (λ c. not_a_call c.0) (g.lasts q l m);
        befores = λ k q h l c m. elim (ℕ_discrete k head) [ yes i ↦ absurd (not_a_call (rw i at c.0)) | no i ↦ g.befores k q (omega arith) l c m ];
      }

  -- a return whose routine has one already, with the same working depth
  pub next_known : (w r q : ℕ) → mark_in sheet (placed queue head) ≡ marked w r q → byte_at program (placed queue head) ≡ 0x6C
      → HasReturn program sheet routines q w → Waiting program sheet queue (head + 1) routines before
  next_known w r q here is-6c known =
      record {
        routines_size = g.routines_size;
        before_size = g.before_size;
        passed = passed-next;
        returned = λ k v s p h e f. elim (ℕ_discrete k head) [
          | yes i ↦ let d = same_parts here (rw i at e) in rw (← d.0, ← d.2) known
          | no i ↦ g.returned k v s p (omega arith) e f
        ];
        leaves = g.leaves;
        back = λ k p v h l c e. elim (ℕ_discrete k head) [ yes i ↦ absurd (not_call (rw i at c.0)) | no i ↦ g.back k p v (omega arith) l c e ];
        lasts = λ p l m. last_next program queue p head (get_or routines (p - start) 0) (λ c. not_call c.0) (g.lasts p l m);
        befores = λ k p h l c m. elim (ℕ_discrete k head) [ yes i ↦ absurd (not_call (rw i at c.0)) | no i ↦ g.befores k p (omega arith) l c m ];
      }
    where
      not_call : byte_at program (placed queue head) ≡ 0x60 → ⊥
      not_call e = let z : ◌≡◌ {A = ℕ} 0x60 0x6C = sym e ∙ is-6c in omega arith

  -- the first return of its routine, each call that was visited going on
  pub next-first : (w r q j : ℕ) → start ≤ q → q - start < length routines → placed queue head ≡ start + j
      → mark_in sheet (placed queue head) ≡ marked w r q → byte_at program (placed queue head) ≡ 0x6C
      → get_or routines (q - start) 0 ≤ admit_most
      → AllBack program sheet queue q head w
      → Waiting program sheet queue (head + 1) (set routines (q - start) (returned_at j)) before
  next-first w r q j low space e-j here is-6c free done =
      record {
        routines_size = simp length-set g.routines_size;
        before_size = g.before_size;
        passed = passed-next;
        returned = λ k v s p h e f. elim (ℕ_discrete k head) [
          | yes i ↦ let z = same_parts here (rw i at e) in rw (← z.0, ← z.2) (j, new, left)
          | no i ↦ keeps p v (g.returned k v s p (omega arith) e f)
        ];
        leaves = λ p k l e. elim (ℕ_discrete p q) [
          | yes i ↦ let z : returned_at j ≡ returned_at k = sym new ∙ rw i at e in let m : j ≡ k = omega arith in rw (i, ← m) (w, left)
          | no i ↦ g.leaves p k l (sym (old p (λ m. i (omega arith))) ∙ e)
        ];
        back = λ k p v h l c e. elim (ℕ_discrete k head) [
          | yes i ↦ absurd (not_call (rw i at c.0))
          | no i ↦ elim (ℕ_discrete p q) [
            | yes m ↦ let z : v ≡ w = same_return program sheet (set routines (q - start) (returned_at j)) q v w (rw m at e) (j, new, left) in rw z (done k (omega arith) (rw m at c))
            | no m ↦ g.back k p v (omega arith) l c (e.0, sym (old p (λ n. m (omega arith))) ∙ e.1, e.2)
          ]
        ];
        lasts = λ p l m.
            let e = old p (still p m) in
            rw e (last_next program queue p head (get_or routines (p - start) 0) (λ c. not_call c.0) (g.lasts p l (rw e at m)));
        befores = λ k p h l c m. elim (ℕ_discrete k head) [
          | yes i ↦ absurd (not_call (rw i at c.0))
          | no i ↦ g.befores k p (omega arith) l c (rw (old p (still p m)) at m)
        ];
      }
    where
      not_call : byte_at program (placed queue head) ≡ 0x60 → ⊥
      not_call e = let z : ◌≡◌ {A = ℕ} 0x60 0x6C = sym e ∙ is-6c in omega arith

      new : get_or (set routines (q - start) (returned_at j)) (q - start) 0 ≡ returned_at j
      new = get_or-set_same routines (q - start) (returned_at j) 0 space

      left : Left program sheet q j w
      left = record { ret = r; here = rw e-j at here; returns = rw e-j at is-6c; passes = rw e-j at (pass w r q here) }

      old : (p : ℕ) → (p - start ≡ q - start → ⊥) → get_or (set routines (q - start) (returned_at j)) (p - start) 0 ≡ get_or routines (p - start) 0
      old p h = get_or-set_other routines (q - start) (p - start) (returned_at j) 0 h

      -- a routine with a return is another one
      keeps : (p v : ℕ) → HasReturn program sheet routines p v → HasReturn program sheet (set routines (q - start) (returned_at j)) p v
      keeps p v (k, e, x) = (k, old p (λ m. let z = rw (ap (λ n. get_or routines n 0) m) at e in omega arith) ∙ e, x)

      still : (p : ℕ) → get_or (set routines (q - start) (returned_at j)) (p - start) 0 ≤ admit_most → p - start ≡ q - start → ⊥
      still p m e = omega (arith, new, rw e at m)

  -- a call of t, which has no return yet
  pub next_waits : (t : ℕ) → start ≤ t → t - start < length routines → head < length before → head < admit_most
      → Calls program queue t head → get_or routines (t - start) 0 ≤ admit_most
      → Waiting program sheet queue (head + 1) (set routines (t - start) (head + 1)) (set before head (get_or routines (t - start) 0))
  next_waits t low space room h-most c none =
      record {
        routines_size = simp length-set g.routines_size;
        before_size = simp length-set g.before_size;
        passed = passed-next;
        returned = λ k v r q h e f. elim (ℕ_discrete k head) [
          | yes i ↦ absurd (not-return (rw i at f))
          | no i ↦ let o = g.returned k v r q (omega arith) e f in (o.0, old q (other q o.0 o.1) ∙ o.1, o.2)
        ];
        leaves = λ q j l e. g.leaves q j l (sym (old q (fresh q j e)) ∙ e);
        back = λ k q v h l d e. elim (ℕ_discrete k head) [
          | yes i ↦ absurd (fresh q e.0 e.1 (ap (λ a. a - start) (sym (rw i at d.1) ∙ c.1)))
          | no i ↦ g.back k q v (omega arith) l d (e.0, sym (old q (fresh q e.0 e.1)) ∙ e.1, e.2)
        ];
        lasts = λ q l m. elim (ℕ_discrete q t) [
          | yes i ↦ rw (i, new) record { low = omega arith; this = λ k e. let j : head ≡ k = omega arith in rw (← j) c; none = λ k a b d. omega arith }
          | no i ↦
              let e = old q (λ j. i (omega arith)) in
              rw e (last_next program queue q head (get_or routines (q - start) 0) (λ d. i (sym d.1 ∙ c.1)) (g.lasts q l (rw e at m)))
        ];
        befores = λ k q h l d m. elim (ℕ_discrete k head) [
          | yes i ↦ let j : q ≡ t = sym (rw i at d.1) ∙ c.1 in rw (i, j, get_or-set_same before head (get_or routines (t - start) 0) 0 room) (g.lasts t low none)
          | no i ↦ rw (get_or-set_other before head k (get_or routines (t - start) 0) 0 i) (g.befores k q (omega arith) l d (unreturned q m))
        ];
      }
    where
      not-return : byte_at program (placed queue head) ≡ 0x6C → ⊥
      not-return e = let z : ◌≡◌ {A = ℕ} 0x60 0x6C = sym c.0 ∙ e in omega arith

      new : get_or (set routines (t - start) (head + 1)) (t - start) 0 ≡ head + 1
      new = get_or-set_same routines (t - start) (head + 1) 0 space

      old : (q : ℕ) → (q - start ≡ t - start → ⊥) → get_or (set routines (t - start) (head + 1)) (q - start) 0 ≡ get_or routines (q - start) 0
      old q h = get_or-set_other routines (t - start) (q - start) (head + 1) 0 h

      -- a routine with a return is another one
      other : (q j : ℕ) → get_or routines (q - start) 0 ≡ returned_at j → q - start ≡ t - start → ⊥
      other q j e i = omega (arith, rw i at e)

      fresh : (q j : ℕ) → get_or (set routines (t - start) (head + 1)) (q - start) 0 ≡ returned_at j → q - start ≡ t - start → ⊥
      fresh q j e i = omega (arith, new, rw i at e)

      unreturned : (q : ℕ) → get_or (set routines (t - start) (head + 1)) (q - start) 0 ≤ admit_most → get_or routines (q - start) 0 ≤ admit_most
      unreturned q m = elim (ℕ_discrete (q - start) (t - start)) [ yes j ↦ rw j none | no j ↦ rw (old q j) at m ]

  -- a call of t, which has returns with the working depth v
  pub next-back : (t v : ℕ) → Calls program queue t head → HasReturn program sheet routines t v → Back program sheet (placed queue head) v
      → Waiting program sheet queue (head + 1) routines before
  next-back t v c known b =
      record {
        routines_size = g.routines_size;
        before_size = g.before_size;
        passed = passed-next;
        returned = λ k v r q h e f. elim (ℕ_discrete k head) [
          | yes i ↦ absurd (not-return (rw i at f))
          | no i ↦ g.returned k v r q (omega arith) e f
        ];
        leaves = g.leaves;
        back = λ k q w h l d e. elim (ℕ_discrete k head) [
          | yes i ↦ let m : t ≡ q = sym c.1 ∙ rw i at d.1 in let z : v ≡ w = same_return program sheet routines q v w (rw m at known) e in rw (i, ← z) b
          | no i ↦ g.back k q w (omega arith) l d e
        ];
        lasts = λ q l m. last_next program queue q head (get_or routines (q - start) 0) (λ d. waits q d.1 m) (g.lasts q l m);
        befores = λ k q h l d m. elim (ℕ_discrete k head) [
          | yes i ↦ absurd (waits q (rw i at d.1) m)
          | no i ↦ g.befores k q (omega arith) l d m
        ];
      }
    where
      not-return : byte_at program (placed queue head) ≡ 0x6C → ⊥
      not-return e = let z : ◌≡◌ {A = ℕ} 0x60 0x6C = sym c.0 ∙ e in omega arith

      waits : (q : ℕ) → target_of program (placed queue head) ≡ q → get_or routines (q - start) 0 ≤ admit_most → ⊥
      waits q d m = let e : t ≡ q = sym c.1 ∙ d in omega (arith, rw e at known.1)

-- ---- the calls that wait, one after the other

-- those from place j on go on
pub record Released (program sheet queue : List ℕ) (q head v j : ℕ) : Type 0 where
  pub low : j ≤ head
  pub this : (k : ℕ) → j ≡ suc k → Calls program queue q k
  pub done : (k : ℕ) → j ≤ k → k < head → Calls program queue q k → Back program sheet (placed queue k) v

pub released_one : (program sheet queue : List ℕ) (q head v k j : ℕ) → Released program sheet queue q head v (suc k)
    → Back program sheet (placed queue k) v → Last program queue q k j → Released program sheet queue q head v j
released_one program sheet queue q head v k j g b l =
    record {
      low = omega (arith, g.low, l.low);
      this = l.this;
      done = λ n a h c. elim (ℕ_discrete n k) [
        | yes i ↦ rw i b
        | no i ↦ elim (dec_lt n k) [ yes m ↦ absurd (l.none n a m c) | no m ↦ g.done n (omega arith) h c ]
      ];
    }

-- ---- with more marks, and more addresses in the queue

module _ (program sheet queue : List ℕ) (list : Listed program sheet queue) (sheet₁ queue₁ : List ℕ)
    (more : Extended program sheet queue sheet₁ queue₁) where
  same_place : (k : ℕ) → k < length queue → placed queue₁ k ≡ placed queue k
  same_place k h = ap (λ i. start + i) (more.kept k h)

  pub same_calls : (q k : ℕ) → k < length queue → Calls program queue₁ q k → Calls program queue q k
  same_calls q k h c = rw (same_place k h) at c

  calls_same : (q k : ℕ) → k < length queue → Calls program queue q k → Calls program queue₁ q k
  calls_same q k h c = rw (same_place k h) c

  -- the mark of a place that was in the queue
  old_mark : (k w r q : ℕ) → k < length queue → mark_in sheet₁ (placed queue₁ k) ≡ marked w r q → mark_in sheet (placed queue k) ≡ marked w r q
  old_mark k w r q h e =
      let m = list.listed k h in
      let d = same_parts (more.grown _ _ _ _ m.3) (rw (same_place k h) at e) in
      rw (← d.0, ← d.1, ← d.2) m.3

  pub more-back : (k v : ℕ) → k < length queue → Back program sheet (placed queue k) v → Back program sheet₁ (placed queue₁ k) v
  more-back k v h b w r q e = rw (same_place k h) (more.grown _ v r q (b w r q (old_mark k w r q h e)))

  pub more_passing : (k : ℕ) → k < length queue → Passing program sheet (placed queue k) → Passing program sheet₁ (placed queue₁ k)
  more_passing k h f w r q e = rw (same_place k h) (f w r q (old_mark k w r q h e))

  pub more_last : (q n j : ℕ) → n ≤ length queue → Last program queue q n j → Last program queue₁ q n j
  more_last q n j h l =
      record {
        low = l.low;
        this = λ k e. calls_same q k (omega (arith, l.low)) (l.this k e);
        none = λ k a b c. l.none k a b (same_calls q k (omega arith) c);
      }

  pub more-waiting : (head : ℕ) (routines before : List ℕ) → head ≤ length queue → Waiting program sheet queue head routines before
      → Waiting program sheet₁ queue₁ head routines before
  more-waiting head routines before h g =
      record {
        routines_size = g.routines_size;
        before_size = g.before_size;
        passed = λ k l. more_passing k (omega arith) (g.passed k l);
        returned = λ k v r q l e f. more-returned q v (g.returned k v r q l (old_mark k v r q (omega arith) e) (rw (same_place k (omega arith)) at f));
        leaves = λ q j l e. let x = g.leaves q j l e in (x.0, grown_left program sheet sheet₁ more.grown q j x.0 x.1);
        back = λ k q v l a c e. more-back k v (omega arith) (g.back k q v l a (same_calls q k (omega arith) c) (less_returned q v a e));
        lasts = λ q l m. more_last q head _ h (g.lasts q l m);
        befores = λ k q l a c m. more_last q k _ (omega arith) (g.befores k q l a (same_calls q k (omega arith) c) m);
      }
    where
      more-returned : (q v : ℕ) → HasReturn program sheet routines q v → HasReturn program sheet₁ routines q v
      more-returned q v (j, e, x) = (j, e, grown_left program sheet sheet₁ more.grown q j v x)

      less_returned : (q v : ℕ) → start ≤ q → HasReturn program sheet₁ routines q v → HasReturn program sheet routines q v
      less_returned q v l (j, e, x) =
          let y = g.leaves q j l e in
          let d = same_parts (more.grown _ _ _ _ y.1.here) x.here in
          (j, e, rw d.0 at y.1)

  pub more_released : (q head v j : ℕ) → head ≤ length queue → Released program sheet queue q head v j → Released program sheet₁ queue₁ q head v j
  more_released q head v j h g =
      record {
        low = g.low;
        this = λ k e. calls_same q k (omega (arith, g.low)) (g.this k e);
        done = λ k a b c. more-back k v (omega arith) (g.done k a b (same_calls q k (omega arith) c));
      }
