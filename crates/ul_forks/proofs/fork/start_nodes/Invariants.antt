use Rattle.std.proofs.Common.{◌≡◌, take}
use Rattle.ul_region.specs.Laws.{roots}
use Rattle.ul_forks.proofs.fork.start_nodes.Given as goal

abbrev pub invariant-loop-extra : goal.invariant-loop-extra
invariant-loop-extra l = l.nodes.items ≡ roots l.name (take l.extra-index l.extras)
