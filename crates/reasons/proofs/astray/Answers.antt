-- `reasons::astray` meets its contract. Assumes nothing.
use Rattle.reasons.proofs.Reasons as reasons
use Rattle.reasons.proofs.astray.Goals as goal

pub returns : goal.returns
returns c = reasons.differ _ _ _ _ c.requires.2 c.requires.3 c.if-at-lt-START.false _ c.from-i.ensures c.if-program-i.false _ c.place_of.ensures
