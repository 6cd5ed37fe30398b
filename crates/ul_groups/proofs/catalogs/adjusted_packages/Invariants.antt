use Rattle.std.proofs.Common.{◌≡◌, map, take}
use Rattle.ul_groups.specs.Adjusted.{adjusted_package}
use Rattle.ul_groups.specs.NameLists.{at_name}
use Rattle.ul_groups.proofs.catalogs.adjusted_packages.Given as goal

abbrev pub invariant-loop-found : goal.invariant-loop-found
invariant-loop-found l = l.list.items ≡ map (adjusted_package (at_name l.constraints.entries) (at_name l.overrides.entries) (at_name l.sources.entries)) (take l.found-index l.packages)
