use Rattle.ul_blame.specs.Choices.{chosen}
use Rattle.ul_blame.proofs.Chosen.{AreMetFrom}
use Rattle.ul_blame.proofs.serving.are_met_from.Given as goal

abbrev pub invariant-loop-k : goal.invariant-loop-k
invariant-loop-k l = AreMetFrom l.problem (chosen l.choice) l.flags l.all l.place l.k
