-- `moves::some_record` meets its contract. Assumes nothing.
use mathlib.Core.Path.{◌∙◌}
use Rattle.std.specs.Slice.Iter.{chunks_exact_rest}
use Rattle.moves.proofs.Judging as judging
use Rattle.moves.proofs.some_record.Goals as goal

pub returns-then-test : goal.returns-then-test
returns-then-test g c holds told =
    let s = c.in-Some.ensures.steps in
    let l = s.1.1 ∙ c.loop-record.invariant.2 in
    judging.one_holds _ c.requires.sized holds _ _ (c.loop-record.invariant.3 holds told) _ (chunks_exact_rest c.next.new.self) s.1.0 l _ (told _ _ l c.test.ensures) c.if-test.true

pub loop-record-preserved : goal.loop-record-preserved
loop-record-preserved g c =
    let s = c.in-Some.ensures.steps in
    let l = s.1.1 ∙ c.loop-record.invariant.2 in (
      rw (s.0, c.loop-record.invariant.2) c.requires.sized,
      tt,
      s.0 ∙ c.loop-record.invariant.2,
      λ holds told. judging.none_so_far _ c.requires.sized holds _ _ (c.loop-record.invariant.3 holds told) _ _ s.1.0 l _ (told _ _ l c.test.ensures) c.if-test.false,
    )

pub returns : goal.returns
returns g c holds told =
    let s = c.in-None.ensures.steps in
    judging.none_holds _ c.requires.sized holds _ _ (c.loop-record.invariant.3 holds told) (rw c.loop-record.invariant.2 at s.1.0)
