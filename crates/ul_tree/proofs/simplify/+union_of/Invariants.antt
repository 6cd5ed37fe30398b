use Rattle.std.proofs.Common.{◌-◌}
use Rattle.ul_tree.proofs.simplify.+union_of.Given as goal

abbrev pub decreases-union_of : goal.decreases-union_of
decreases-union_of l = l.high - l.low
