use Rattle.tests_threads.proofs.algebra.trees.+random_tree.Given as goal

abbrev pub decreases-random_tree : goal.decreases-random_tree
decreases-random_tree l = l.depth
