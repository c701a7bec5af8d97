-- `refusals::well_formed` meets its contract. The loop's invariant: the bytes past the data are all zero just where the OR of those seen is
-- 0 and the rest are all zero. Assumes nothing.
use mathlib.Core.Path.{◌≡◌}
use mathlib.Core.Bool.{◌&&◌}
use lib.Dec.{eqb}
use lib.ListN.{drop}
use Rattle.model.specs.Calls.{all_zero}
use Rattle.refusals.proofs.well_formed.Given as goal

abbrev pub invariant-loop-byte : goal.invariant-loop-byte
invariant-loop-byte l = (eqb l.seen 0 && all_zero (drop l.byte-index l.tail)) ≡ all_zero l.tail
