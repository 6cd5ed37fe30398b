use Rattle.tests_standards.proofs.tree.operations.+grown.Given as goal

abbrev pub decreases-grown : goal.decreases-grown
decreases-grown l = l.depth
