-- `moves::wrong_old` meets its contract. Assumes nothing.
use native.Mathlib.Omega.{arith}
use Rattle.moves.proofs.Records as records
use Rattle.moves.proofs.wrong_old.Goals as goal

pub returns-then-bytes-eq-MARKED : goal.returns-then-bytes-eq-MARKED
returns-then-bytes-eq-MARKED c = records.old-marked _ (omega arith)

pub returns-then-not_zero : goal.returns-then-not_zero
returns-then-not_zero c = records.old_before _ c.requires (λ z. omega arith) c.not_zero.result c.not_zero.ensures c.if-not_zero.true

pub returns : goal.returns
returns c = records.old_after _ c.requires (λ z. omega arith) c.not_zero.result c.not_zero.ensures c.if-not_zero.false c.not_zero-2.result c.not_zero-2.ensures
