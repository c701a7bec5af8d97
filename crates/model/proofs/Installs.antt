-- C-15: an install is an admission and a load in one: when it is refused, what it leaves then, and what it does otherwise. Assumes nothing.
use mathlib.Core.Path.{◌≡◌, refl, sym, ap, ◌∙◌}
use mathlib.Core.Bool.{false, ◌||◌}
use mathlib.Core.Logic.{◌↔◌}
use mathlib.Core.List.{List}
use Prim.Native.Nat.{ℕ, zero, suc, ◌≤◌}
use native.Mathlib.Omega.{arith}
use lib.Dec.{ltb}
use lib.ListN.{length}
use borrow.Author.Tests.{ne_eqb, le-ltb}
use Rattle.model.specs.Machine.{State, Sized}
use Rattle.model.specs.Run.{Reply, reply}
use Rattle.model.specs.Run.Answer.{Refused, Loaded, Admitted}
use Rattle.model.specs.Admission.{Assignable}
use Rattle.model.specs.Calls.{refusal, has_length, number_of, unless, load_most, load, load_call, admit_rows, admit_by, admit_call, InstallResult, install_rows, install_by, install_call}
use Rattle.model.specs.Exactness.{Proper}
use Rattle.model.proofs.Exactness.{Passed, passes, exact}
use Rattle.model.proofs.Numbers.{buffers_right, buffers_passed, load-passed, not-refused}
use Rattle.model.proofs.Refusals.{AsFound}

-- ---- on buffers of the right lengths: admission, and where that has no number the load

-- the number of an admission is that of its rows
pub admit_number : (n : ℕ) (program sheet : List ℕ) → number_of (admit_by n program sheet).answer ≡ n
unfolding admit_by
admit_number zero program sheet = refl
admit_number (suc n) program sheet = refl

-- and that of an install is the same
install-number : (program sheet : List ℕ) (s : State) → Sized s → refusal (install_rows program sheet s) ≡ refusal (admit_rows program sheet)
unfolding install_rows
install-number program sheet s z = buffers_passed s (admit_rows program sheet) z

pub install_is : (program sheet : List ℕ) (s : State) → Sized s
    → install_call program sheet s ≡ record { reply = unless (number_of (admit_call program sheet).answer) s (load_call program s); sheet = (admit_call program sheet).sheet }
unfolding install_call install_by admit_call
install_is program sheet s z = rw (install-number program sheet s z, admit_number (refusal (admit_rows program sheet)) program sheet)

-- ---- not refused

-- a program that admission takes has room in memory
has_room : (program : List ℕ) {sheet : List ℕ} → Passed program sheet → (has_length program 0 || ltb load_most (length program)) ≡ false
has_room program ok = rw (ne_eqb (length program) 0 ok.some, le-ltb load_most (length program) (omega (arith, ok.most)))

-- "a filter goes in only if admitted, its sheet written by the same call"
pub record Installed (program sheet : List ℕ) (s : State) : Type 0 where
  pub sized : Sized s
  pub admits : (admit_call program sheet).answer ≡ Admitted
  pub room : length program ≤ load_most
  pub loads : (install_call program sheet s).reply ≡ reply Loaded 0 0 (load program)
  pub written : (install_call program sheet s).sheet ≡ (admit_call program sheet).sheet

-- what load does with a program that admission takes
loads_admitted : (program sheet : List ℕ) (s : State) → Sized s → (admit_call program sheet).answer ≡ Admitted
    → load_call program s ≡ reply Loaded 0 0 (load program)
unfolding load_call unless
loads_admitted program sheet s z t = rw (load-passed program s z (has_room program (passes program sheet t)), unless)

-- both are enough
pub installs : (program sheet : List ℕ) (s : State) → Sized s → (admit_call program sheet).answer ≡ Admitted → Installed program sheet s
unfolding unless
installs program sheet s z t =
    let e = install_is program sheet s z in
    record {
      sized = z;
      admits = t;
      room = omega (arith, (passes program sheet t).most);
      loads = ap (λ (r : InstallResult). r.reply) e ∙ rw (t, unless) (loads_admitted program sheet s z t);
      written = ap (λ (r : InstallResult). r.sheet) e;
    }

-- and both are needed
pub no_number : (program sheet : List ℕ) (s : State) → refusal (install_rows program sheet s) ≡ 0 → Installed program sheet s
unfolding install_rows admit_call admit_by
no_number program sheet s e =
    let b = buffers_right s (admit_rows program sheet) e in
    installs program sheet s b.0 (rw (b.1, admit_by))

pub installed : (program sheet : List ℕ) (s : State) → (install_call program sheet s).reply.answer ≡ Loaded → Installed program sheet s
unfolding install_call install_by
installed program sheet s t = no_number program sheet s (not-refused (refusal (install_rows program sheet s)) s _ t)

-- given both lengths, "exactly when depths for its addresses exist that obey the admission rules"
pub installed_exactly : (program sheet : List ℕ) → Proper program sheet → (s : State) → Sized s
    → ((install_call program sheet s).reply.answer ≡ Loaded) ↔ Assignable program
installed_exactly program sheet h s z = (
  λ t. (exact.admitted program sheet h).0 (installed program sheet s t).admits,
  λ a. rw (installs program sheet s z ((exact.admitted program sheet h).1 a)).loads,
)

-- ---- refused

-- "If not, the old one keeps running": the machine is as found
pub install-leaves : (program sheet : List ℕ) (s : State) → ((install_call program sheet s).reply.answer ≡ Loaded → ⊥)
    → (install_call program sheet s).reply ≡ reply (Refused (refusal (install_rows program sheet s))) 0 0 s
unfolding install_call install_by unless
install-leaves program sheet s h = by (refusal (install_rows program sheet s)) refl
  where
    by : (n : ℕ) → refusal (install_rows program sheet s) ≡ n
        → (install_call program sheet s).reply ≡ reply (Refused (refusal (install_rows program sheet s))) 0 0 s
    by zero e = absurd (h (rw (no_number program sheet s e).loads))
    by (suc n) e = rw (e, unless)

pub install-found : (program sheet : List ℕ) (s : State) → AsFound s (install_call program sheet s).reply
install-found program sheet s h =
    let e = install-leaves program sheet s (λ t. let n = ap number_of t in absurd (omega arith)) in
    e ∙ ap (λ n. reply (Refused n) 0 0 s) (sym (ap (λ (r : Reply). number_of r.answer) e))
