use Rattle.ul_blame.specs.Choices.{chosen}
use Rattle.ul_blame.proofs.Chosen.{AreMetBefore}
use Rattle.ul_blame.proofs.serving.are_met_at.Given as goal

abbrev pub invariant-loop-place : goal.invariant-loop-place
invariant-loop-place l = AreMetBefore l.problem (chosen l.choice) l.flags l.all l.places l.place-index
