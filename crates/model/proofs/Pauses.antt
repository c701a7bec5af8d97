-- C-18: the ports that a step writes, and what follows a pause. Assumes nothing.
use Rattle.std.specs.Prelude.{Option, Some, None}
use mathlib.Core.Path.{◌≡◌, refl, ap, ◌∙◌}
use mathlib.Core.Bool.{Bool, true, false, cond, ◌||◌, true≢false}
use mathlib.Core.List.{List, [], ◌∷◌, append-nil}
use Prim.Native.Nat.{ℕ, zero, suc, ◌+◌, ◌-◌, ◌%◌, ◌<◌}
use native.Mathlib.Omega.{arith}
use lib.Dec.{eqb}
use lib.ListN.{length, get_or, set}
use lib.Seq.{get_or-set_other}
use borrow.Author.Tests.{eqb-true, eqb-false, ltb-false}
use Rattle.model.specs.Bytes.{one_of, word, places_ring, write_ring}
use Rattle.model.specs.Machine.{page_size, State, Sized}
use Rattle.model.specs.Instruction.{Op, op_of, wide, size, return_mode, keep_mode, shape, shape_of}
use Rattle.model.specs.Instruction.Op.{DEO}
use Rattle.model.specs.Step.{effect, effect_on, written, effect_at, applied, exchanged, operated, execute, sent_by, ports_of, fetched, step, breaks, step_ports}
use Rattle.model.specs.Run.{Reply, reply, pauses, run, more}
use Rattle.model.specs.Run.Answer.{Broke, Paused, Ignored}
use Rattle.model.specs.Calls.{refusal, buffer_rows, unless, from, vector, event_rows, run_call, event_call}
use Rattle.model.proofs.Bytes.{length-word}
use Rattle.model.proofs.Changes.{stores_devices, sends_is}
use Rattle.model.proofs.Computing.{decoding}
use Rattle.model.proofs.Runs.{run_induction, after, run_sized, runs_on}
use Rattle.model.proofs.Numbers.{buffers_right, run-passed, event_right}

-- ---- the ports that a step names are all that it writes

not-one : (a b : Bool) → (a || b) ≡ false → (a ≡ false) × (b ≡ false)
not-one true b e = absurd (true≢false e)
not-one false b e = (refl, e)

-- the bytes that stand elsewhere stay
ring_elsewhere : (m : ℕ) (s : List ℕ) (a i : ℕ) (bs : List ℕ) → one_of i (places_ring m a (length bs)) ≡ false
    → get_or (write_ring m s a bs) i 0 ≡ get_or s i 0
unfolding write_ring places_ring
ring_elsewhere m s a i [] e = refl
ring_elsewhere m s a i (b ∷ bs) e =
    let h = not-one (eqb i (a % m)) _ e in
    ring_elsewhere m (set s (a % m) b) (a + 1) i bs h.1 ∙ get_or-set_other s (a % m) i b 0 (eqb-false i (a % m) h.0)

applied_elsewhere : (o : Op) (w keep : Bool) (s : State) (i : ℕ) → one_of i (sent_by o w s) ≡ false
    → get_or (applied o w keep s).devices i 0 ≡ get_or s.devices i 0
unfolding applied written sent_by
applied_elsewhere o w keep s i e =
    let x = effect_at o w s in
    let n = (shape (size w) o).sends in
    ring_elsewhere x.ring s.devices x.place i (word n x.value) (rw (length-word n x.value) e)

-- a port that the instruction does not name keeps its byte
pub elsewhere : (byte : ℕ) (s : State) (i : ℕ) → one_of i (ports_of byte s) ≡ false
    → get_or (execute byte s).devices i 0 ≡ get_or s.devices i 0
unfolding execute operated ports_of
elsewhere byte s i = by (return_mode byte)
  where
    by : (r : Bool) → one_of i (sent_by (op_of byte) (wide byte) (exchanged r s)) ≡ false
        → get_or (exchanged r (applied (op_of byte) (wide byte) (keep_mode byte) (exchanged r s))).devices i 0 ≡ get_or s.devices i 0
    by false e = applied_elsewhere (op_of byte) (wide byte) (keep_mode byte) s i e
    by true e = applied_elsewhere (op_of byte) (wide byte) (keep_mode byte) (exchanged true s) i e

-- ---- which ports these are

-- every instruction but DEO writes none
pub no_ports : (byte : ℕ) (s : State) → byte < 256 → stores_devices byte ≡ false → ports_of byte s ≡ []
unfolding ports_of sent_by places_ring shape_of
no_ports byte s l e =
    let h = ltb-false 0 (shape_of byte).sends (sends_is byte l ∙ e) in
    let z : (shape (size (wide byte)) (op_of byte)).sends ≡ 0 = omega arith in
    rw (z, places_ring)

-- DEO writes as many from its port on as the width says
pub deo_ports : (byte : ℕ) (s : State) → byte % 32 ≡ 0x17
    → ports_of byte s ≡ places_ring page_size (effect_on [] [] 0 0 DEO (wide byte) (exchanged (return_mode byte) s).work).place (size (wide byte))
unfolding ports_of sent_by op_of effect_on effect shape
deo_ports byte s e = rw e

-- BRK writes none
pub brk_writes : (s : State) → breaks s ≡ true → step_ports s ≡ []
unfolding ports_of sent_by places_ring decoding
brk_writes s e = ap (λ n. ports_of n s) (eqb-true (fetched s) 0x00 e)

-- ---- a pause

-- No step of a run wrote what is watched, but the last one of a run that is Paused (`paused_last`). So none of a run that is Spent: "Paused
-- goes before Spent on the last unit"
pub unseen : (watch : Option ℕ) (k : ℕ) (s : State) (i : ℕ) → i < (run watch k s).steps → ((run watch k s).answer ≡ Paused → suc i < (run watch k s).steps)
    → pauses watch (step_ports (after i s)) ≡ false
unseen watch =
    run_induction watch (λ k s r t. (i : ℕ) → i < r.steps → (r.answer ≡ Paused → suc i < r.steps) → pauses watch (step_ports (after i s)) ≡ false)
    (λ s i l h. absurd (omega arith)) (λ k s e. broke s e) (λ k s e f i l h. let g = h refl in absurd (omega arith))
    (λ k s r t e f ih. on s r f ih)
  where
    none : (x : Option ℕ) → pauses x [] ≡ false
    none None = refl
    none (Some p) = refl

    broke : (s : State) → breaks s ≡ true → (i : ℕ) → i < 1 → (Broke ≡ Paused → suc i < 1) → pauses watch (step_ports (after i s)) ≡ false
    broke s e zero l h = rw (brk_writes s e) (none watch)
    broke s e (suc i) l h = absurd (omega arith)

    on : (s : State) (r : Reply) → pauses watch (step_ports s) ≡ false
        → ((i : ℕ) → i < r.steps → (r.answer ≡ Paused → suc i < r.steps) → pauses watch (step_ports (after i (step s))) ≡ false)
        → (i : ℕ) → i < suc r.steps → (r.answer ≡ Paused → suc i < suc r.steps) → pauses watch (step_ports (after i s)) ≡ false
    on s r f ih zero l h = f
    on s r f ih (suc i) l h = ih i (omega arith) (λ p. let g = h p in omega arith)

-- a call that answers Paused is not refused, and then does what it does
not-refused : (n : ℕ) (s : State) (done : Reply) → (unless n s done).answer ≡ Paused → n ≡ 0
unfolding unless
not-refused zero s done e = refl
not-refused (suc n) s done e = let z : ◌≡◌ {A = ℕ} 0 1 = cc in absurd (omega arith)

done_is : (n : ℕ) (s : State) (done : Reply) → n ≡ 0 → unless n s done ≡ done
unfolding unless
done_is n s done e = rw e

-- "Running on unwatched from there with what budget remains ends as an unwatched run from the start, steps added."
pub paused_run : (watch : Option ℕ) (budget : ℕ) (s : State) → (run_call watch budget s).answer ≡ Paused
    → run_call None budget s
    ≡ more (run_call watch budget s).steps (run_call None (budget - (run_call watch budget s).steps) (run_call watch budget s).state)
unfolding run_call
paused_run watch budget s h =
    let e = not-refused (refusal (buffer_rows s)) s (run watch budget s) h in
    let z = right s e in
    let a = run-passed watch budget s z in
    let p : (run watch budget s).answer ≡ Paused = rw a at h in
    rw (a, run-passed None budget s z, run-passed None (budget - (run watch budget s).steps) (run watch budget s).state (run_sized watch budget s z))
    (runs_on watch budget s p)
  where
    right : (s : State) → refusal (buffer_rows s) ≡ 0 → Sized s
    right s e = (buffers_right s [] (ap refusal (append-nil (buffer_rows s)) ∙ e)).0

-- the same of an event: a run goes on from there
pub paused_event : (watch : Option ℕ) (device budget : ℕ) (s : State) → (event_call watch device budget s).answer ≡ Paused
    → event_call None device budget s
    ≡ more (event_call watch device budget s).steps (run_call None (budget - (event_call watch device budget s).steps) (event_call watch device budget s).state)
unfolding event_call
paused_event watch device budget s h =
    let e = not-refused (refusal (event_rows device s)) s (did watch (eqb (vector device s) 0)) h in
    let z = (event_right device s e).0 in
    let d : (x : Option ℕ) → event_call x device budget s ≡ did x (eqb (vector device s) 0) = λ x. done_is _ s _ e in
    rw (d watch, d None) (by (eqb (vector device s) 0) z (rw (d watch) at h))
  where
    did : Option ℕ → Bool → Reply
    did x none = cond none (reply Ignored 0 0 s) (run x budget (from (vector device s) s))

    by : (none : Bool) → Sized s → (did watch none).answer ≡ Paused
        → did None none ≡ more (did watch none).steps (run_call None (budget - (did watch none).steps) (did watch none).state)
    by true z p = let y : ◌≡◌ {A = ℕ} 0 1 = cc in absurd (omega arith)
    by false z p =
        let t = from (vector device s) s in
        let u : Sized t = record { memory = z.memory; devices = z.devices; work = z.work; ret = z.ret } in
        rw (run-passed None (budget - (run watch budget t).steps) (run watch budget t).state (run_sized watch budget t u))
        (runs_on watch budget t p)
