-- `reasons::reason` meets its contract. Assumes nothing.
use mathlib.Core.Path.{refl, ◌∙◌}
use Rattle.reasons.proofs.Reasons as reasons
use Rattle.std.proofs.Common.{inl, inr}
use Rattle.reasons.proofs.reason.Goals as goal
use Rattle.reasons.proofs.reason.Goals.{then-byte-eq-JSI, else-byte-eq-JSI}

pub returns-then-byte-routine : goal.returns-then-byte-routine
returns-then-byte-routine c = reasons.in_0100 _ _ _ _ _ c.requires _ c.place_of-here.ensures c.if-byte-routine.true

pub next_of-requires : goal.next_of-requires
next_of-requires c = reasons.after_asks _ _ _ _ _ c.requires _ c.place_of-here.ensures c.in-After.is

pub astray-requires : goal.astray-requires
astray-requires c = reasons.after_lost _ _ _ _ _ c.requires _ c.place_of-here.ensures c.in-After.is _ _ (c.from-in-After.ensures ∙ c.entry-in-After.ensures) refl _ c.next_of.ensures

pub jump_target-target-requires : goal.jump_target-target-requires
jump_target-target-requires c = reasons.target-inside _ _ _ _ _ c.requires _ c.place_of-here.ensures c.in-Target.is

pub next_of-requires-in-Target : goal.next_of-requires-in-Target
next_of-requires-in-Target c = reasons.target_asks _ _ _ _ _ c.requires _ c.place_of-here.ensures c.in-Target.is

pub astray-requires-in-Target : goal.astray-requires-in-Target
astray-requires-in-Target c = reasons.target_lost _ _ _ _ _ c.requires _ c.place_of-here.ensures c.in-Target.is _ _ c.jump_target-target.ensures (reasons.target-routine _ _ _ _ _ c.requires _ c.place_of-here.ensures _ _ c.jump_target-target.ensures (elim c.if-byte-eq-JSI.branch [ then-byte-eq-JSI w ↦ inl (w.if-byte-eq-JSI.true, w.to-is) | else-byte-eq-JSI w ↦ inr (w.if-byte-eq-JSI.false, w.to-is) ])) _ c.next_of-in-Target.ensures

pub astray-requires-in-Back : goal.astray-requires-in-Back
astray-requires-in-Back c = reasons.back_lost _ _ _ _ _ c.requires _ c.place_of-here.ensures c.in-Back.is _ c.place_of-depth.ensures

pub returns-in-Forbidden : goal.returns-in-Forbidden
returns-in-Forbidden c = reasons.forbidden _ _ _ _ _ c.requires _ c.place_of-here.ensures c.in-Forbidden.is

pub returns-in-Cut : goal.returns-in-Cut
returns-in-Cut c = reasons.cut _ _ _ _ _ c.requires _ c.place_of-here.ensures c.in-Cut.is _ c.entry.ensures

pub returns-in-FewWorking : goal.returns-in-FewWorking
returns-in-FewWorking c = reasons.few_working _ _ _ _ _ c.requires _ c.place_of-here.ensures c.in-FewWorking.is _ c.entry-in-FewWorking.ensures

pub returns-in-ManyWorking : goal.returns-in-ManyWorking
returns-in-ManyWorking c = reasons.many_working _ _ _ _ _ c.requires _ c.place_of-here.ensures c.in-ManyWorking.is _ c.depth_by_table.ensures

pub returns-in-FewReturn : goal.returns-in-FewReturn
returns-in-FewReturn c = reasons.few_return _ _ _ _ _ c.requires _ c.place_of-here.ensures c.in-FewReturn.is _ c.entry-in-FewReturn.ensures

pub returns-in-ManyReturn : goal.returns-in-ManyReturn
returns-in-ManyReturn c = reasons.many_return _ _ _ _ _ c.requires _ c.place_of-here.ensures c.in-ManyReturn.is _ c.depth_by_table-in-ManyReturn.ensures

pub returns-in-BelowFloor : goal.returns-in-BelowFloor
returns-in-BelowFloor c = reasons.below_floor _ _ _ _ _ c.requires _ c.place_of-here.ensures _ c.from.ensures _ c.place_of.ensures c.in-BelowFloor.is _ c.entry-taken.ensures

pub returns-in-ReturnOffFloor : goal.returns-in-ReturnOffFloor
returns-in-ReturnOffFloor c = reasons.off_floor _ _ _ _ _ c.requires _ c.place_of-here.ensures _ c.from-in-ReturnOffFloor.ensures _ c.place_of-in-ReturnOffFloor.ensures c.in-ReturnOffFloor.is

pub returns-in-ReturnsDiffer : goal.returns-in-ReturnsDiffer
returns-in-ReturnsDiffer c = reasons.differing _ _ _ _ _ c.requires _ c.place_of-here.ensures c.in-ReturnsDiffer.is _ c.place_of-in-ReturnsDiffer.ensures
