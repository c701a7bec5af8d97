-- `records::put_fitted` meets its contract. Assumes nothing.
use Rattle.records.proofs.Fitting as fitting
use Rattle.records.proofs.put_fitted.Goals as goal

pub returns : goal.returns
returns c = fitting.put_is c.args.entry.now c.args.part.now _ _ c.min-kept.ensures c.fill.ensures
