use Rattle.ul_blame.specs.Choices.{chosen}
use Rattle.ul_blame.proofs.Chosen.{HasRootsBefore}
use Rattle.ul_blame.proofs.serving.has_roots.Given as goal

abbrev pub invariant-loop-root : goal.invariant-loop-root
invariant-loop-root l = HasRootsBefore (chosen l.choice) l.roots l.root-index
