-- `rules::forbidden` meets its contract. Assumes nothing.
use mathlib.Core.Path.{◌≡◌}
use native.Mathlib.Omega.{arith}
use Rattle.model.specs.Admission.{allowed}
use Rattle.rules.proofs.Instructions as laws
use Rattle.rules.proofs.forbidden.Goals as goal

pub returns-then-byte-eq-RETURN : goal.returns-then-byte-eq-RETURN
unfolding allowed
returns-then-byte-eq-RETURN c = let e : c.args.byte ≡ 108 = omega arith in rw e

pub returns : goal.returns
returns c = laws.bit_is _ c.ranges.byte.fits (λ z. omega arith)
