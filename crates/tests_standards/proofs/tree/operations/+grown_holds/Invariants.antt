use Rattle.tests_standards.proofs.tree.operations.+grown_holds.Given as goal

abbrev pub decreases-grown_holds : goal.decreases-grown_holds
decreases-grown_holds l = l.depth
