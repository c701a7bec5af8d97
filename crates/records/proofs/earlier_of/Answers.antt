-- `records::earlier_of` meets its contract. Assumes nothing.
use Rattle.records.proofs.Blocks as blocks
use Rattle.records.proofs.earlier_of.Goals as goal

pub returns-then-either : goal.returns-then-either
returns-then-either c = blocks.earlier_15 _ _ c.either.result c.either.ensures c.if-either.true

pub returns-then-either-2 : goal.returns-then-either-2
returns-then-either-2 c = blocks.earlier_8 _ _ c.either.result c.either.ensures c.if-either.false c.either-2.result c.either-2.ensures c.if-either-2.true

pub returns-then-either-3 : goal.returns-then-either-3
returns-then-either-3 c = blocks.earlier_16 _ _ c.either.result c.either.ensures c.if-either.false c.either-2.result c.either-2.ensures c.if-either-2.false c.either-3.result c.either-3.ensures c.if-either-3.true

pub returns : goal.returns
returns c = blocks.earlier_0 _ _ c.either.result c.either.ensures c.if-either.false c.either-2.result c.either-2.ensures c.if-either-2.false c.either-3.result c.either-3.ensures c.if-either-3.false
