use Rattle.std.proofs.Common.{take}
use Rattle.ul_region.specs.Naming.{AreNamed}
use Rattle.ul_forks.proofs.picks.named_picks.Given as goal

abbrev pub invariant-loop-pick : goal.invariant-loop-pick
invariant-loop-pick l = AreNamed l.problem (take l.pick-index l.picks) l.named.items
