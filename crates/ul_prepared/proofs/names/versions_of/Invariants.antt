use Rattle.std.proofs.Common.{◌≡◌, map, take}
use Rattle.ul_prepared.proofs.names.versions_of.Given as goal

abbrev pub invariant-loop-release : goal.invariant-loop-release
invariant-loop-release l = l.versions.items ≡ map (λ r. r.now.version) (take l.release-index l.releases)
