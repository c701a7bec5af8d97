-- `moves::narrow_sheet` meets its contract. Assumes nothing.
use Rattle.model.specs.Moves.{wrong_new, stays_new, narrowed, narrowed_sheet}
use Rattle.moves.proofs.Calls as calls
use Rattle.moves.proofs.narrow_sheet.Goals as goal

pub returns-then-new-ne0 : goal.returns-then-new-ne0
returns-then-new-ne0 c = calls.narrow_part _ _ c.if-new-ne0.true

pub returns-then-some_record : goal.returns-then-some_record
returns-then-some_record c = calls.narrow_wrong _ _ c.some_record.result (c.some_record.ensures wrong_new (λ x r l h. h)) c.if-some_record.true

pub returns-then-some_record-2 : goal.returns-then-some_record-2
returns-then-some_record-2 c = calls.narrow_stays _ _ c.some_record.result (c.some_record.ensures wrong_new (λ x r l h. h)) c.if-some_record.false c.if-new-ne0.false c.some_record-2.result (c.some_record-2.ensures stays_new (λ x r l h. h)) c.if-some_record-2.true

pub returns-then-output-new : goal.returns-then-output-new
returns-then-output-new c = calls.narrow_short _ _ c.some_record.result (c.some_record.ensures wrong_new (λ x r l h. h)) c.if-some_record.false c.if-new-ne0.false c.some_record-2.result (c.some_record-2.ensures stays_new (λ x r l h. h)) c.if-some_record-2.false c.if-output-new.true

pub returns : goal.returns
unfolding narrowed_sheet
returns c = calls.narrow_written _ _ c.some_record.result (c.some_record.ensures wrong_new (λ x r l h. h)) c.if-some_record.false c.if-new-ne0.false c.some_record-2.result (c.some_record-2.ensures stays_new (λ x r l h. h)) c.if-some_record-2.false c.if-output-new.false _ (c.each_record.ensures narrowed (λ x p a l h q. q))
