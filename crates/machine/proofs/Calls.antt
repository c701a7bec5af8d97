-- What the calls that run a machine reply when they are not refused. Assumes nothing.
use mathlib.Core.Path.{◌≡◌, refl, sym, ap, ◌∙◌}
use mathlib.Core.Bool.{Bool, true, false, cond}
use mathlib.Core.List.{List, [], ◌++◌}
use Prim.Native.Nat.{ℕ, ◌+◌, ◌*◌}
use native.Mathlib.Omega.{arith}
use lib.Dec.{eqb}
use borrow.Author.Tests.{ne_eqb}
use lib.ListN.{length, get_or, set, take, drop}
use Rattle.std.specs.Prelude.{Option, None, Ok}
use Rattle.model.specs.Bytes.{number, read_ring}
use Rattle.model.specs.Machine.{page_size, start, State, state}
use Rattle.model.specs.Instruction.{size}
use Rattle.model.specs.Step.{step, breaks, step_ports}
use Rattle.model.specs.Run.{Reply, reply, with_ports, step_reply, run}
use Rattle.model.specs.Run.Answer.{WentOn, Broke, Spent, Ignored}
use Rattle.model.specs.Calls.{from, vector, frame_place, verdict_port, framed, with_verdict}
use Rattle.model.specs.Replies.{ports_in, of_step, of_run_end, of_event, of_frame}
use Rattle.model.specs.declared.EventEnd.{EventEnd}
use Rattle.model.specs.declared.Machine.{Machine}
use Rattle.model.specs.declared.Ports.{Ports}
use Rattle.model.proofs.Runs.{run_broke, run_on, run_through}
use Rattle.model.proofs.Pauses.{brk_writes}
use Rattle.cpu.proofs.Runs.{answers}
use Rattle.cpu.specs.Ended.{of_end}
use Rattle.cpu.specs.declared.End.{End}
use Rattle.replies.specs.FromRun.{step_of, run_of, frame_of}

-- ---- what a run replies

-- what a run, an event and a frame answer says what the end of the run says
module _ (state_of : Machine → State) (budget : ℕ) where
  pub run_is : (e : End) → of_run_end state_of (run_of budget e) ≡ of_end budget state_of e
  run_is (End.Broke m n) = refl
  run_is (End.Spent m) = refl
  run_is (End.Paused m n) = refl

  pub event_is : (e : End) → of_event state_of (Ok (EventEnd.Ran (run_of budget e))) ≡ of_end budget state_of e
  event_is (End.Broke m n) = refl
  event_is (End.Spent m) = refl
  event_is (End.Paused m n) = refl

  -- C-18: a run that watches nothing is not paused
  not_paused : {A : Type 0} (s : State) (m : Machine) (n : ℕ) → of_end budget state_of (End.Paused m n) ≡ run None budget s → A
  not_paused s m n h = absurd (run_through budget s (sym (answers h)))

  pub frame_is : (verdict : ℕ) (s : State) (e : End) → ((m : Machine) → verdict ≡ get_or (state_of m).devices verdict_port 0)
      → of_end budget state_of e ≡ run None budget s → of_frame state_of (Ok (frame_of budget e verdict)) ≡ with_verdict (run None budget s)
  frame_is verdict s (End.Broke m n) h g = rw (← g, h m)
  frame_is verdict s (End.Spent m) h g = rw (← g)
  frame_is verdict s (End.Paused m n) h g = not_paused s m n g

-- a run with budget 1 that watches nothing
one-step : (s : State) → run None 1 s ≡ reply (cond (breaks s) Broke Spent) 1 0 (step s)
unfolding run
one-step s = by (breaks s) refl
  where
    by : (b : Bool) → breaks s ≡ b → run None 1 s ≡ reply (cond b Broke Spent) 1 0 (step s)
    by true e = run_broke None 0 s e
    by false e = run_on None 0 s e refl

stepped : (state_of : Machine → State) (ports : Ports) (b : Bool) (s t : State) (e : End) → (b ≡ true → step_ports s ≡ []) → ports_in ports ≡ step_ports s
    → of_end 1 state_of e ≡ reply (cond b Broke Spent) 1 0 t → of_step state_of (Ok (step_of ports e)) ≡ with_ports (step_ports s) (reply (cond b Broke WentOn) 1 0 t)
stepped state_of ports true s t (End.Broke m n) brk p h = rw (brk refl) (ap (λ (r : Reply). reply Broke 1 0 r.state) h)
stepped state_of ports false s t (End.Spent m) brk p h = rw p (ap (λ (r : Reply). with_ports (step_ports s) (reply WentOn 1 0 r.state)) h)
stepped state_of ports true s t (End.Spent m) brk p h = let a = answers h in let z : ◌≡◌ {A = ℕ} 0 1 = cc in absurd (omega arith)
stepped state_of ports false s t (End.Broke m n) brk p h = let a = answers h in let z : ◌≡◌ {A = ℕ} 0 1 = cc in absurd (omega arith)
stepped state_of ports true s t (End.Paused m n) brk p h = let a = answers h in let z : ◌≡◌ {A = ℕ} 0 1 = cc in absurd (omega arith)
stepped state_of ports false s t (End.Paused m n) brk p h = let a = answers h in let z : ◌≡◌ {A = ℕ} 0 1 = cc in absurd (omega arith)

pub step_is : (state_of : Machine → State) (ports : Ports) (s : State) (e : End) → ports_in ports ≡ step_ports s → of_end 1 state_of e ≡ run None 1 s
    → of_step state_of (Ok (step_of ports e)) ≡ step_reply s
step_is state_of ports s e p h = stepped state_of ports (breaks s) s (step s) e (brk_writes s) p (h ∙ one-step s)

-- ---- event

pub vector_is : (device : ℕ) (s : State) {p v : ℕ} → p ≡ 16 * device → v ≡ number (read_ring page_size s.devices p (size true)) → v ≡ vector device s
unfolding vector size
vector_is device s e h = rw e at h

pub ignored : (watch : Option ℕ) (device budget : ℕ) (s : State) {v : ℕ} → v ≡ vector device s → v ≡ 0
    → reply Ignored 0 0 s ≡ cond (eqb (vector device s) 0) (reply Ignored 0 0 s) (run watch budget (from (vector device s) s))
ignored watch device budget s e z = rw (← e, z)

pub runs_from : (watch : Option ℕ) (device budget : ℕ) (s : State) {v : ℕ} {r : Reply} → v ≡ vector device s → (v ≡ 0 → ⊥) → r ≡ run watch budget (from v s)
    → r ≡ cond (eqb (vector device s) 0) (reply Ignored 0 0 s) (run watch budget (from (vector device s) s))
runs_from watch device budget s e z h = rw (← e, ne_eqb _ _ z) h

-- ---- frame

pub framed_is : (frame : List ℕ) (s : State) {m d : List ℕ} → m ≡ take frame_place s.memory ++ frame ++ drop (frame_place + length frame) s.memory
    → d ≡ set s.devices verdict_port 0 → state m d s.work.bytes s.ret.bytes (record { pc = start; wp = 0; rp = 0; wp_high = 0; rp_high = 0 }) ≡ framed frame s
unfolding framed
framed_is frame s h g = rw (h, g)
