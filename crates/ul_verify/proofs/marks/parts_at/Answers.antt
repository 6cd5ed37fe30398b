use Rattle.ul_verify.proofs.MarkFacts.{found_all, found_more}
use Rattle.ul_verify.proofs.marks.parts_at.Goals as goal

pub loop-place-preserved : goal.loop-place-preserved
loop-place-preserved c = found_more c.args.marks.now c.args.places.now c.loop-place.place-index _ _ c.loop-place-test.true c.loop-place.invariant c.in_ok-put_at.ensures

pub returns : goal.returns
returns c = found_all c.args.marks.now c.args.places.now c.loop-place.place-index _ c.loop-place-test.false c.loop-place.invariant
