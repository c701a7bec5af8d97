-- `moves::each_record` meets its contract. Assumes nothing.
use mathlib.Core.Path.{◌∙◌}
use native.Mathlib.Omega.{arith}
use Rattle.moves.proofs.Sheets as sheets
use Rattle.moves.proofs.each_record.Goals as goal

pub loop-entry-init : goal.loop-entry-init
loop-entry-init g c =
    let e = c.chunks_exact-entry-items.ensures in
    let i = c.into_iter-entry-iterator.ensures.into_iter_gives in
    (rw (i, e.size) c.requires.sized, tt, rw (i, e.size), rw (i, e.rest) (sheets.left_start _ _ _ _ _ c.requires.fits (omega arith)), λ changed puts. rw (i, e.rest))

pub overflow_add-next : goal.overflow_add-next
overflow_add-next g c =
    let s = c.in-Some.ensures.steps in
    let l = s.1.1 ∙ c.loop-entry.invariant.2 in
    omega (arith, sheets.left_room _ _ _ _ _ c.loop-entry.put c.loop-entry.invariant.3 c.requires.sized _ _ s.1.0 l)

pub slice_bounds-change-end : goal.slice_bounds-change-end
slice_bounds-change-end g c =
    let s = c.in-Some.ensures.steps in
    let l = s.1.1 ∙ c.loop-entry.invariant.2 in
    sheets.left_room _ _ _ _ _ c.loop-entry.put c.loop-entry.invariant.3 c.requires.sized _ _ s.1.0 l

pub loop-entry-preserved : goal.loop-entry-preserved
loop-entry-preserved g c =
    let s = c.in-Some.ensures.steps in
    let l = s.1.1 ∙ c.loop-entry.invariant.2 in
    let room = sheets.left_room _ _ _ _ _ c.loop-entry.put c.loop-entry.invariant.3 c.requires.sized _ _ s.1.0 l in
    let part = sheets.part_long c.loop-entry.put c.args.room c.loop-entry.output room in
    let long = c.change.auto.arg3 ∙ part in (
      rw (s.0, c.loop-entry.invariant.2) c.requires.sized,
      tt,
      s.0 ∙ c.loop-entry.invariant.2,
      sheets.left_next _ _ _ _ _ c.loop-entry.put c.loop-entry.invariant.3 c.requires.sized _ _ s.1.0 l _ long,
      λ changed puts. sheets.put_next _ _ _ _ _ c.loop-entry.put c.loop-entry.invariant.3 c.requires.sized _ _ s.1.0 l _ long changed _ (c.loop-entry.invariant.4 changed puts) (puts _ _ _ l part c.change.ensures),
    )

pub returns : goal.returns
returns g c changed puts =
    let s = c.in-None.ensures.steps in
    sheets.put_end _ _ _ _ _ c.loop-entry.put c.loop-entry.invariant.3 changed c.args.file.now (c.loop-entry.invariant.4 changed puts) (rw c.loop-entry.invariant.2 at s.1.0)
