use Rattle.std.proofs.Common.{◌≡◌, drop}
use Rattle.std.specs.Prelude.{flat_map}
use Rattle.ul_lock_write.specs.Markers.{package_markers, first_over}
use Rattle.ul_lock_write.proofs.paths.of_packages.Given as goal

abbrev pub invariant-loop-block : goal.invariant-loop-block
invariant-loop-block l = first_over (flat_map package_markers (drop l.block-index l.packages)) ≡ first_over (flat_map package_markers l.packages)
