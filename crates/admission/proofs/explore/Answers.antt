-- `admission::explore` meets its contract. Assumes nothing.
use mathlib.Core.Path.{refl, ◌∙◌}
use Rattle.admission.proofs.Explored as explored
use Rattle.admission.proofs.explore.Goals as goal

pub visit_all-requires : goal.visit_all-requires
visit_all-requires c = rw c.new-2.ensures.same.1 (explored.begins _ _ _ c.requires.some c.requires.most (c.new-2.ensures.first.0 ∙ rw c.unmark.ensures refl) c.new-2.ensures.first.1)
