-- `moves::wrong_new` meets its contract. Assumes nothing.
use Rattle.moves.proofs.Records as records
use Rattle.moves.proofs.wrong_new.Goals as goal

pub returns-then-wrong_old : goal.returns-then-wrong_old
returns-then-wrong_old c = records.new_wrong _ c.wrong_old.result c.wrong_old.ensures c.if-wrong_old.true

pub returns-then-bytes-ne-MARKED : goal.returns-then-bytes-ne-MARKED
returns-then-bytes-ne-MARKED c = records.new-unmarked _ c.wrong_old.result c.wrong_old.ensures c.if-wrong_old.false c.if-bytes-ne-MARKED.true

pub returns-then-two_bytes-eq0 : goal.returns-then-two_bytes-eq0
returns-then-two_bytes-eq0 c = records.new-routine _ c.wrong_old.result c.wrong_old.ensures c.if-wrong_old.false c.if-bytes-ne-MARKED.false c.two_bytes.result c.two_bytes.ensures c.if-two_bytes-eq0.true

pub returns : goal.returns
returns c = records.new_last _ c.wrong_old.result c.wrong_old.ensures c.if-wrong_old.false c.if-bytes-ne-MARKED.false c.two_bytes.result c.two_bytes.ensures c.if-two_bytes-eq0.false c.not_zero.result c.not_zero.ensures
