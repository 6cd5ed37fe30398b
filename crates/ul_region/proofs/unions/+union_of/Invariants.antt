use Rattle.std.proofs.Common.{length}
use Rattle.ul_region.proofs.unions.+union_of.Given as goal

abbrev pub decreases-union_of : goal.decreases-union_of
decreases-union_of g l = length l.parts.now
