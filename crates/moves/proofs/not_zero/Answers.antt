-- `moves::not_zero` meets its contract. Assumes nothing.
use mathlib.Core.Path.{◌∙◌}
use mathlib.Core.Bool.{not}
use lib.Dec.{eqb}
use borrow.Author.Rules.{rules}
use borrow.Author.Tests.{tests}
use Rattle.std.proofs.lemmas.Iterator.{YieldsList-from_slice}
use Rattle.std.proofs.lemmas.Iterator.Search.{any_from_yields_List}
use Rattle.moves.proofs.Records as records
use Rattle.moves.proofs.not_zero.Goals as goal

pub returns : goal.returns
returns c =
    any_from_yields_List (λ byte. not (eqb byte 0)) _ _ _ c.any.ensures.ran (YieldsList-from_slice _ c.iter.ensures.rest) (λ x b q k. search (rules, tests))
    ∙ records.some_not_zero c.args.bytes.now
