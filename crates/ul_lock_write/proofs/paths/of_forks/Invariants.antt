use Rattle.std.proofs.Common.{◌≡◌, drop}
use Rattle.std.specs.Prelude.{flat_map}
use Rattle.ul_lock_write.specs.Markers.{fork_marker, first_over}
use Rattle.ul_lock_write.proofs.paths.of_forks.Given as goal

abbrev pub invariant-loop-fork : goal.invariant-loop-fork
invariant-loop-fork l = first_over (flat_map fork_marker (drop l.fork-index l.forks)) ≡ first_over (flat_map fork_marker l.forks)
