use Rattle.std.proofs.Common.{◌≡◌, ◌++◌, ◌∷◌, [], map}
use Rattle.std.specs.Vec.Iter.{into_iter_items}
use Rattle.ul_groups.specs.Adjusted.{constrained_by}
use Rattle.ul_groups.proofs.adjustment.add_followed.Given as goal

abbrev pub invariant-loop-follower : goal.invariant-loop-follower
invariant-loop-follower l = l.list.items ++ into_iter_items l.follower-iterator ≡ (l.fn.list.items ++ l.fn.requirement ∷ []) ++ map (constrained_by l.fn.requirement) l.constraints
