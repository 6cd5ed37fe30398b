use Rattle.std.proofs.Common.{◌≡◌, map, take}
use Rattle.ul_groups.specs.Adjusted.{adjusted_list, adjusted_release}
use Rattle.ul_groups.specs.NameLists.{at_name}
use Rattle.ul_groups.proofs.catalogs.adjusted_releases.Given as goal

abbrev pub invariant-loop-release : goal.invariant-loop-release
invariant-loop-release l =
    (l.list.items ≡ map (adjusted_release (at_name l.constraints.entries) (at_name l.overrides.entries) (at_name l.sources.entries)) (take l.release-index l.releases))
    × (l.made ≡ adjusted_list (at_name l.constraints.entries) (at_name l.overrides.entries) (at_name l.sources.entries) l.said)
