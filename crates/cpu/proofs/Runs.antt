-- An instruction by its byte, the high marks, and a run from the steps of its loop. Assumes nothing.
use Rattle.std.proofs.Common.{◌≡◌, ℕ, zero, suc, ◌+◌, ◌-◌, ◌/◌, ◌%◌, ◌<◌, ◌≤◌, Bool, true, false, cond, eqb, Option, ltb, leb, List, [], ◌∷◌, sym, refl, ap, ◌∙◌, arith, ltb-false, ltb-true, le-ltb, lt-ltb, eq-eqb, ne_eqb, leb-false, leb-true}
use Rattle.model.specs.Bytes.{greater, one_of, places_ring}
use Rattle.model.specs.Machine.{page_size, State}
use Rattle.model.specs.Instruction.{wide, size, return_mode}
use Rattle.model.specs.Instruction.Op.{DEO}
use Rattle.model.specs.Step.{effect_on, exchanged, execute, raised, fetched, step, breaks, step_ports}
use Rattle.model.specs.Run.{Reply, reply, more, pauses, run}
use Rattle.model.specs.Run.Answer.{WentOn, Broke, Spent}
use Rattle.model.specs.declared.Machine.{Machine}
use Rattle.model.proofs.Runs.{run_broke, run_paused, run_on}
use Rattle.model.proofs.Pauses.{no_ports, deo_ports}
use Rattle.operations.proofs.Arms.{went}
use Rattle.operations.specs.After.{executed, byte_of}
use Rattle.execute.specs.Stepped.{of_stepped}
use Rattle.execute.specs.declared.Stepped.{Stepped}
use Rattle.execute.specs.declared.Sent.{Sent}
use Rattle.cpu.specs.declared.End.{End}
use Rattle.cpu.specs.Ended.{carried_out, raised_record, unspent, of_end, ended_by}

-- ---- the byte from its low seven bits and bit 7

whole : (b : ℕ) (k : Bool) → b < 256 → leb 128 b ≡ k → byte_of (b % 128) k ≡ b
whole b true l h = let g = leb-true 128 b h in omega arith
whole b false l h = let g = leb-false 128 b h in omega arith

pub carries_out : (s : State) {t : Reply} → fetched s < 256 → t ≡ executed (byte_of (fetched s % 128) (leb 128 (fetched s))) s → t ≡ carried_out s
unfolding carried_out
carries_out s l h = rw (whole (fetched s) (leb 128 (fetched s)) l refl) at h

-- ---- the high marks

pub greater_second : (a b : ℕ) → a < b → b ≡ greater a b
greater_second a b l = rw (lt-ltb a b l)

pub greater-first : (a b : ℕ) → b ≤ a → a ≡ greater a b
greater-first a b l = rw (le-ltb a b l)

-- a record that has no pointer above its mark
pub unraised : (m : Machine) → m.wp ≤ m.wp_high → m.rp ≤ m.rp_high → m ≡ raised_record m
unraised m w r = rw (le-ltb _ _ w, le-ltb _ _ r)

-- ---- the ports that a step writes

-- p is one of n ports from `a` on, if it is r further on and r is below n
pub among_places : (n a r : ℕ) {p : ℕ} → r < 256 → (r + a % 256) % 256 ≡ p → ltb r n ≡ one_of p (places_ring page_size a n)
unfolding places_ring
among_places zero a r l e = le-ltb r 0 (omega arith)
among_places (suc n) a zero {p} l e = rw (eq-eqb p (a % 256) (omega arith)) (lt-ltb 0 (suc n) (omega arith))
among_places (suc n) a (suc r) {p} l e =
    rw (ne_eqb p (a % 256) (λ q. omega arith)) (less_suc r n ∙ among_places n (a + 1) r (omega arith) (omega arith))
  where
    less_suc : (r n : ℕ) → ltb (suc r) (suc n) ≡ ltb r n
    less_suc r n = by (ltb r n) refl
      where
        by : (b : Bool) → ltb r n ≡ b → ltb (suc r) (suc n) ≡ b
        by true e = let h = ltb-true r n e in lt-ltb (suc r) (suc n) (omega arith)
        by false e = let h = ltb-false r n e in le-ltb (suc r) (suc n) (omega arith)

module _ (port : ℕ) {w : Bool} where
  pub one_port : w ≡ false → port % 256 ∷ [] ≡ places_ring page_size port (size w)
  unfolding places_ring size
  one_port e = rw (e, places_ring)

  pub two_ports_lem : {second : ℕ} → w ≡ true → second ≡ (port + 1) % page_size → port % 256 ∷ second ∷ [] ≡ places_ring page_size port (size w)
  unfolding places_ring size
  two_ports_lem e h = rw (e, h, places_ring)

module _ (s : State) where
  pub writes_none : fetched s < 256 → (fetched s % 32 ≡ 0x17 → ⊥) → [] ≡ step_ports s
  writes_none l e = sym (no_ports (fetched s) s l (rw (ne_eqb (fetched s % 32) 0x17 e)))

  -- DEO: the ports that its main stack says
  pub writes : (r : Bool) {port : ℕ} {ports : List ℕ} → fetched s % 32 ≡ 0x17 → eqb (fetched s / 64 % 2) 1 ≡ r
      → port ≡ (effect_on [] [] 0 0 DEO (eqb (fetched s / 32 % 2) 1) (exchanged r s).work).place
      → ports ≡ places_ring page_size port (size (eqb (fetched s / 32 % 2) 1)) → ports ≡ step_ports s
  unfolding wide return_mode
  writes r e m p h = rw (deo_ports (fetched s) s e, m, ← p) h

-- ---- the loop, with n of the budget not spent

-- the answer, the state and the ports of equal replies
pub answers : {r t : Reply} → r ≡ t → r.answer ≡ t.answer
answers h = ap (λ (x : Reply). x.answer) h

states : {r t : Reply} → r ≡ t → t.state ≡ r.state
states h = sym (ap (λ (x : Reply). x.state) h)

ports_are : {r t : Reply} → r ≡ t → t.ports ≡ r.ports
ports_are h = sym (ap (λ (x : Reply). x.ports) h)

-- a step that went on, and one that broke
went_on : (b : Bool) → WentOn ≡ cond b Broke WentOn → b ≡ false
went_on true h = let z : ◌≡◌ {A = ℕ} 0 1 = cc in absurd (omega arith)
went_on false h = refl

broke : (b : Bool) → Broke ≡ cond b Broke WentOn → b ≡ true
broke false h = let z : ◌≡◌ {A = ℕ} 0 1 = cc in absurd (omega arith)
broke true h = refl

-- a step is its instruction, and the marks raised
raises : (s t : State) → execute (fetched s) s ≡ t → step s ≡ raised t
unfolding step
raises s t e = ap raised e

module _ (watch : Option ℕ) (budget n k : ℕ) (d : n ≡ suc k) (b : n ≤ budget) (s : State) (state_of : Machine → State) where
  -- the step went on: the run goes on, unless the step wrote what is watched
  module _ (next : Machine) (sent : Sent) {a : Stepped} (e : a ≡ Stepped.WentOn next sent) (h : of_stepped state_of a ≡ carried_out s) where
    pub goes_on_lem : pauses watch (places_ring page_size sent.first sent.count) ≡ false
        → more (budget - n) (run watch n s) ≡ more (budget - k) (run watch k (raised (state_of next)))
    unfolding carried_out
    goes_on_lem f =
        let g : went sent.first sent.count (state_of next) ≡ executed (fetched s) s = rw e at h in
        let t = raised (state_of next) in
        let z : budget - suc k + suc (run watch k t).steps ≡ budget - k + (run watch k t).steps = omega arith in
        rw (d, run_on watch k s (went_on (breaks s) (answers g)) (rw (ports_are g) f), raises s (state_of next) (states g), z)

    pub stops : pauses watch (places_ring page_size sent.first sent.count) ≡ true → raised (state_of next) ≡ state_of (raised_record next)
        → of_end budget state_of (End.Paused (raised_record next) k) ≡ more (budget - n) (run watch n s)
    unfolding carried_out
    stops f u =
        let g : went sent.first sent.count (state_of next) ≡ executed (fetched s) s = rw e at h in
        let z : budget - suc k + 1 ≡ budget - k = omega arith in
        rw (d, run_paused watch k s (went_on (breaks s) (answers g)) (rw (ports_are g) f), raises s (state_of next) (states g), ← u, z)

  pub ends : (a : Stepped) {m : Machine} → a ≡ Stepped.Broke m → of_stepped state_of a ≡ carried_out s → raised (state_of m) ≡ state_of (raised_record m)
      → of_end budget state_of (ended_by a k) ≡ more (budget - n) (run watch n s)
  unfolding carried_out
  ends a {m} e h u =
      let g : of_stepped state_of (Stepped.Broke m) ≡ executed (fetched s) s = rw e at h in
      let z : budget - suc k + 1 ≡ budget - k = omega arith in
      rw (e, d, run_broke watch k s (broke (breaks s) (answers g)), raises s (state_of m) (states g), ← u, z)

-- what is not spent at the end
pub unspent_is : (a : Stepped) (n : ℕ) {budget : ℕ} → n ≤ budget → unspent (ended_by a n) ≤ budget
unspent_is (Stepped.WentOn m sent) n h = omega arith
unspent_is (Stepped.Broke m) n h = h

pub spent : (watch : Option ℕ) (budget n : ℕ) (s : State) → n ≤ 0 → reply Spent budget 0 s ≡ more (budget - n) (run watch n s)
unfolding run
spent watch budget n s h =
    let z : n ≡ 0 = omega arith in
    let e : budget - 0 + 0 ≡ budget = omega arith in
    rw (z, e)
