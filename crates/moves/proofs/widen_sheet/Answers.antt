-- `moves::widen_sheet` meets its contract. Assumes nothing.
use Rattle.model.specs.Moves.{wrong_old, widened, widened_sheet}
use Rattle.moves.proofs.Calls as calls
use Rattle.moves.proofs.widen_sheet.Goals as goal

pub returns-then-old-ne0 : goal.returns-then-old-ne0
returns-then-old-ne0 c = calls.widen_part _ _ c.if-old-ne0.true

pub returns-then-some_record : goal.returns-then-some_record
returns-then-some_record c = calls.widen_wrong _ _ c.some_record.result (c.some_record.ensures wrong_old (λ x r l h. h)) c.if-some_record.true

pub returns-then-output-old : goal.returns-then-output-old
returns-then-output-old c = calls.widen_short _ _ c.some_record.result (c.some_record.ensures wrong_old (λ x r l h. h)) c.if-some_record.false c.if-old-ne0.false c.if-output-old.true

pub returns : goal.returns
unfolding widened_sheet
returns c = calls.widen_written _ _ c.some_record.result (c.some_record.ensures wrong_old (λ x r l h. h)) c.if-some_record.false c.if-old-ne0.false c.if-output-old.false _ (c.each_record.ensures widened (λ x p a l h q. q))
