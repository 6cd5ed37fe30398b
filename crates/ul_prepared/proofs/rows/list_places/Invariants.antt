use Rattle.std.proofs.Common.{◌≡◌, map, take}
use Rattle.ul_prepared.specs.Shared.{list_in}
use Rattle.ul_prepared.proofs.rows.list_places.Given as goal

abbrev pub invariant-loop-release : goal.invariant-loop-release
invariant-loop-release l = l.places.items ≡ map list_in (take l.release-index l.releases)
