-- `rules::lowered` meets its contract. Assumes nothing.
use Rattle.std.proofs.Common.{◌≡◌, ◌/◌, ◌%◌, arith}
use Rattle.model.specs.Instruction.{keep_mode}
use Rattle.rules.proofs.lowered.Goals as goal

pub returns-then-byte-ge128 : goal.returns-then-byte-ge128
unfolding keep_mode
returns-then-byte-ge128 c = let e : c.args.byte / 128 % 2 ≡ 1 = omega arith in (rw e, omega arith)

pub returns-else-byte-ge128 : goal.returns-else-byte-ge128
unfolding keep_mode
returns-else-byte-ge128 c = let e : c.args.byte / 128 % 2 ≡ 0 = omega arith in (rw e, omega arith)
