-- `creply::of_step_end` meets its contract. Assumes nothing.
use Rattle.creply.proofs.of_step_end.Goals as goal

pub returns-in-WentOn : goal.returns-in-WentOn
returns-in-WentOn c p q w t = rw c.in-WentOn.is (c.of_went_on.ensures p q w t)
