-- `records::move_records` meets its contract. Assumes nothing.
use native.Mathlib.Omega.{arith}
use borrow.Author.Rules.{rules}
use Rattle.model.specs.RecordMoves.{broken, too_long, fitted, moved_file}
use Rattle.records.proofs.Calls as calls
use Rattle.records.proofs.move_records.Goals as goal

pub returns-then-file-size-ne0 : goal.returns-then-file-size-ne0
returns-then-file-size-ne0 c = calls.move_part _ _ _ _ (λ z. omega arith)

pub returns-then-some_record : goal.returns-then-some_record
returns-then-some_record c = calls.move_broken _ _ _ _ (omega arith) c.some_record.result (c.some_record.ensures (broken c.args.from.most) (λ x r l h. search rules)) c.if-some_record.true

pub returns-then-some_record-2 : goal.returns-then-some_record-2
returns-then-some_record-2 c = calls.move_too_long _ _ _ _ (omega arith) c.some_record.result (c.some_record.ensures (broken c.args.from.most) (λ x r l h. search rules)) c.if-some_record.false c.some_record-2.result (c.some_record-2.ensures (too_long c.args.to.most) (λ x r l h. search rules)) c.if-some_record-2.true

pub returns-then-output-room : goal.returns-then-output-room
returns-then-output-room c = calls.move_short _ _ _ _ (omega arith) c.some_record.result (c.some_record.ensures (broken c.args.from.most) (λ x r l h. search rules)) c.if-some_record.false c.some_record-2.result (c.some_record-2.ensures (too_long c.args.to.most) (λ x r l h. search rules)) c.if-some_record-2.false (omega (arith, c.requires.0)) c.requires.1 (omega arith)

pub returns : goal.returns
unfolding moved_file
returns c = calls.move_written _ _ _ _ (omega arith) c.some_record.result (c.some_record.ensures (broken c.args.from.most) (λ x r l h. search rules)) c.if-some_record.false c.some_record-2.result (c.some_record-2.ensures (too_long c.args.to.most) (λ x r l h. search rules)) c.if-some_record-2.false (omega (arith, c.requires.0)) c.requires.1 (omega arith) _ (c.each_record.ensures (fitted c.args.to.size) (λ x p a l h q. search rules))
