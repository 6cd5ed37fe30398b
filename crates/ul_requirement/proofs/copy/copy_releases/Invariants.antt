use Rattle.std.proofs.Common.{◌≡◌, take}
use Rattle.ul_requirement.proofs.copy.copy_releases.Given as goal

abbrev pub invariant-loop-release : goal.invariant-loop-release
invariant-loop-release l = l.list.items ≡ take l.release-index l.releases
