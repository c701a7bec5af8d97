-- `admission::unmark` meets its contract. The loop's invariant: the first i records are those of a sheet without marks, the
-- others are zero. Assumes nothing.
use Rattle.admission.proofs.Blank.{Blanked}
use Rattle.admission.proofs.unmark.Given as goal

abbrev pub invariant-loop-i : goal.invariant-loop-i
invariant-loop-i l = Blanked l.program l.sheet l.i
