-- `transfers::inline` meets its contract. Assumes nothing.
use Rattle.std.proofs.Common.{refl}
use Rattle.stack.proofs.Rings.{read_from}
use Rattle.transfers.proofs.inline.Goals as goal

pub returns : goal.returns
returns c = read_from _ _ _ _ refl c.load.ensures
