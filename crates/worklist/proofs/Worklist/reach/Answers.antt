-- `worklist::Worklist::reach` meets its contract. Assumes nothing.
use Prim.Native.Nat.{◌+◌}
use mathlib.Core.Path.{◌≡◌}
use native.Mathlib.Omega.{arith}
use Rattle.model.specs.Machine.{start}
use Rattle.worklist.proofs.Worklist.reach.Goals as goal

pub reach_place-requires : goal.reach_place-requires
reach_place-requires c = let e : start + c.from.result ≡ c.args.at = omega (arith, c.from.ensures, c.if-at-ge-START.true) in rw e c.requires

pub returns-then-at-ge-START-clause-marked : goal.returns-then-at-ge-START-clause-marked
returns-then-at-ge-START-clause-marked c = let e : start + c.from.result ≡ c.args.at = omega (arith, c.from.ensures, c.if-at-ge-START.true) in rw e at c.reach_place.ensures.marked
