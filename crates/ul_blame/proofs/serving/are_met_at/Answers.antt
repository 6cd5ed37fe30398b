use Rattle.ul_blame.specs.Choices.{chosen}
use Rattle.ul_blame.proofs.Chosen.{places_all, places_more}
use Rattle.ul_blame.proofs.serving.are_met_at.Goals as goal

pub loop-place-preserved : goal.loop-place-preserved
loop-place-preserved c =
    places_more c.args.problem.now (chosen c.args.choice.now) c.args.flags.now c.args.all.now c.args.places.now c.loop-place.place-index _ c.loop-place.invariant
    (c.is_met_at.ensures c.if-not-is_met_at.false)

pub returns : goal.returns
returns c = λ _. places_all c.args.problem.now (chosen c.args.choice.now) c.args.flags.now c.args.all.now c.args.places.now c.loop-place.place-index c.loop-place-test.false c.loop-place.invariant
