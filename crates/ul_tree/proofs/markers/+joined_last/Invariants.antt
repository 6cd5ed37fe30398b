use Rattle.ul_tree.proofs.markers.+joined_last.Given as goal

abbrev pub decreases-joined_last : goal.decreases-joined_last
decreases-joined_last l = l.count
