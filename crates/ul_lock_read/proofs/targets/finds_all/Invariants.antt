use Rattle.std.proofs.Common.{◌≡◌, drop}
use Rattle.ul_lock.specs.Targets.{have_targets}
use Rattle.ul_lock_read.proofs.targets.finds_all.Given as goal

abbrev pub invariant-loop-edge : goal.invariant-loop-edge
invariant-loop-edge l = have_targets l.packages (drop l.edge-index l.edges) ≡ have_targets l.packages l.edges
