-- `table::Table::new` makes a table that follows the rule: the test is computed over the 1,280 numbers. Assumes nothing.
use mathlib.Core.Path.{refl}
use Rattle.model.proofs.Computing.{decoding}
use Rattle.table.proofs.Rule.{by_test}
use Rattle.table.proofs.Table.new.Goals as goal

pub invariant_of-result : goal.invariant_of-result
unfolding decoding
invariant_of-result c = record { right = by_test _ refl tt }
