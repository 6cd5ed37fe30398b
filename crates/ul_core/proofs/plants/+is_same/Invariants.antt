use Rattle.std.proofs.Common.{◌≡◌, take}
use Rattle.ul_core.proofs.plants.+is_same.Given as goal

abbrev pub decreases-is_same : goal.decreases-is_same
decreases-is_same g l = goal.size-is_same g l

abbrev pub invariant-loop-i : goal.invariant-loop-i
invariant-loop-i g l = take l.i l.mine ≡ take l.i l.theirs
