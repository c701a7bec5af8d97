-- `worklist::Fault::new` meets its contract. Assumes nothing.
use mathlib.Core.Path.{◌≡◌, refl}
use Prim.Native.Nat.{ℕ, ◌+◌, ◌*◌, ◌/◌, ◌%◌, ◌<◌}
use native.Mathlib.Omega.{arith}
use denote.Enum.Declared.{tag_of}
use Rattle.worklist.specs.declared.Rule.{Rule}
use Rattle.worklist.specs.contracts.Rule.{the_type}
use Rattle.worklist.specs.Worklist.{rule_of, rule_in, place_in, other_in}
use Rattle.worklist.proofs.Fault.new.Goals as goal

-- the three parts of a number
module _ (n i j : ℕ) (low : n < 12) (small : i < 4096) where
  first : (n + 16 * (i + 4096 * j)) % 16 ≡ n
  first = omega arith

  rest : (n + 16 * (i + 4096 * j)) / 16 ≡ i + 4096 * j
  rest = omega arith

  second : (n + 16 * (i + 4096 * j)) / 16 % 4096 ≡ i
  second = rw rest (omega arith)

  third : (n + 16 * (i + 4096 * j)) / 16 / 4096 ≡ j
  third = rw rest (omega arith)

-- the number of a rule
numbered : (rule : Rule) → (tag_of the_type rule < 12) × (rule_of (tag_of the_type rule) ≡ rule)
numbered Rule.Forbidden = (omega arith, refl)
numbered Rule.Cut = (omega arith, refl)
numbered Rule.FewWorking = (omega arith, refl)
numbered Rule.ManyWorking = (omega arith, refl)
numbered Rule.FewReturn = (omega arith, refl)
numbered Rule.ManyReturn = (omega arith, refl)
numbered Rule.BelowFloor = (omega arith, refl)
numbered Rule.After = (omega arith, refl)
numbered Rule.Target = (omega arith, refl)
numbered Rule.Back = (omega arith, refl)
numbered Rule.ReturnOffFloor = (omega arith, refl)
numbered Rule.ReturnsDiffer = (omega arith, refl)

pub returns : goal.returns
unfolding rule_in place_in other_in
returns c =
    let n = numbered c.args.rule in
    rw (first _ _ _ n.0 c.requires.0, second _ _ _ n.0 c.requires.0, third _ _ _ n.0 c.requires.0, n.1) refl

pub invariant_of-result : goal.invariant_of-result
invariant_of-result c =
    let n = numbered c.args.rule in
    rw (first _ _ _ n.0 c.requires.0) n.0
