-- `worklist::Worklist::reach_place` meets its contract. Assumes nothing.
use mathlib.Core.Path.{refl}
use native.Mathlib.Omega.{arith}
use Rattle.worklist.proofs.Listed as listed
use Rattle.worklist.proofs.Worklist.reach_place.Goals as goal

pub bounds-self-i : goal.bounds-self-i
bounds-self-i c = omega (arith, c.if-self-i.false, listed.sheet-length _ _ _ c.requires.0)

pub mark-requires : goal.mark-requires
mark-requires c = omega (arith, c.if-self-i.false, listed.sheet-length _ _ _ c.requires.0)

pub push-requires : goal.push-requires
push-requires c = (omega arith, omega (arith, listed.room _ _ _ c.requires.0 _ c.if-self-i.false c.if-self-i-eq0.true))

pub returns-then-self-i-eq0-clause-marked : goal.returns-then-self-i-eq0-clause-marked
returns-then-self-i-eq0-clause-marked c = (
  listed.extended _ _ _ c.requires.0 _ _ _ _ c.requires.1 _ refl c.if-self-i.false _ _ c.if-self-i-eq0.true c.requires.2 c.mark.ensures c.push.ensures.items,
  listed.reached_mark _ _ _ c.requires.0 _ _ _ _ c.requires.1 _ refl c.if-self-i.false _ _ c.if-self-i-eq0.true c.requires.2 c.mark.ensures c.push.ensures.items,
)

pub agrees-requires : goal.agrees-requires
agrees-requires c = omega (arith, c.if-self-i.false, listed.sheet-length _ _ _ c.requires.0)

pub returns-clause-marked : goal.returns-clause-marked
returns-clause-marked c = listed.has_mark _ _ _ c.requires.0 _ _ _ _ c.requires.1 _ refl c.if-self-i.false c.if-self-i-eq0.false _ c.agrees.ensures
