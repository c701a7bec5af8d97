-- What the answers of `depths_after`, `of_routines` and `sinks` say. Assumes nothing.
use mathlib.Core.Path.{◌≡◌, refl, sym, ◌∙◌}
use mathlib.Core.Logic.{inl, inr}
use mathlib.Core.Bool.{Bool, true, false, ◌||◌, true≢false}
use mathlib.Core.List.{List}
use Prim.Native.Nat.{ℕ, ◌+◌, ◌≤◌}
use native.Mathlib.Omega.{arith}
use lib.Dec.{eqb, ltb}
use borrow.Author.Tests.{eqb-true, eqb-false, le-ltb}
use Rattle.worklist.specs.Worklist.{Failing, Told, ToldIn}
use Rattle.admission.specs.Explored.{OfRoutines}

-- a rule that fails at place i alone
pub alone : (program sheet : List ℕ) (i : ℕ) (f : Failing) → f.at ≡ i → f.other ≡ 0 → Told program sheet f.rule i 0 → ToldIn program sheet f
alone program sheet i f at other t = rw (at, other) t

-- ---- the byte of a call or a return, and another

module _ (byte : ℕ) (b : Bool) (e : b ≡ (eqb byte 0x60 || eqb byte 0x6C)) where
  pub neither : b ≡ false → (byte ≡ 0x60 → ⊥) × (byte ≡ 0x6C → ⊥)
  neither f = by (eqb byte 0x60) (eqb byte 0x6C) refl refl (sym e ∙ f)
    where
      by : (jsi return : Bool) → eqb byte 0x60 ≡ jsi → eqb byte 0x6C ≡ return → (jsi || return) ≡ false → (byte ≡ 0x60 → ⊥) × (byte ≡ 0x6C → ⊥)
      by true return g h n = absurd (true≢false n)
      by false true g h n = absurd (true≢false n)
      by false false g h n = (eqb-false byte 0x60 g, eqb-false byte 0x6C h)

  pub either : b ≡ true → OfRoutines byte
  either f = by (eqb byte 0x60) (eqb byte 0x6C) refl refl (sym e ∙ f)
    where
      by : (jsi return : Bool) → eqb byte 0x60 ≡ jsi → eqb byte 0x6C ≡ return → (jsi || return) ≡ true → OfRoutines byte
      by true return g h n = inl (eqb-true byte 0x60 g)
      by false true g h n = inr (eqb-true byte 0x6C h)
      by false false g h n = absurd (true≢false (sym n))

pub of_call : (byte : ℕ) → OfRoutines byte → (byte ≡ 0x6C → ⊥) → byte ≡ 0x60
of_call byte (inl e) f = e
of_call byte (inr e) f = absurd (f e)

-- what takes no return bytes takes none below a floor that the depth is not below
pub takes_none : (depth least taken : ℕ) → taken ≡ 0 → least ≤ depth → false ≡ ltb depth (least + taken)
takes_none depth least taken e h = sym (le-ltb depth (least + taken) (omega arith))
