use Rattle.std.proofs.Common.{◌≡◌, length}
use Rattle.ul_marker.specs.Comparisons.{version_list}
use Rattle.ul_marker.specs.Readers.{added_versions}
use Rattle.ul_marker.proofs.comparison.versions.Given as goal

abbrev pub invariant-pieces : goal.invariant-pieces
invariant-pieces l = version_list l.input ≡ added_versions l.list.items (version_list l.rest)

abbrev pub decreases-pieces : goal.decreases-pieces
decreases-pieces l = length l.rest
