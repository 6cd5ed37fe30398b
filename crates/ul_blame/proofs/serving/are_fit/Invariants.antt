use Rattle.ul_blame.specs.Choices.{chosen}
use Rattle.ul_blame.proofs.Chosen.{AreFitBefore}
use Rattle.ul_blame.proofs.serving.are_fit.Given as goal

abbrev pub invariant-loop-node : goal.invariant-loop-node
invariant-loop-node l = AreFitBefore l.problem (chosen l.choice) l.node
