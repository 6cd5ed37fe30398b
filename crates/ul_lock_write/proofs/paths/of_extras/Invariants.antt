use Rattle.std.proofs.Common.{◌≡◌, drop}
use Rattle.std.specs.Prelude.{flat_map}
use Rattle.ul_lock_write.specs.Markers.{extra_markers, first_over}
use Rattle.ul_lock_write.proofs.paths.of_extras.Given as goal

abbrev pub invariant-loop-extra : goal.invariant-loop-extra
invariant-loop-extra l = first_over (flat_map extra_markers (drop l.extra-index l.extras)) ≡ first_over (flat_map extra_markers l.extras)
