use Rattle.std.proofs.Common.{◌≡◌, drop, find}
use Rattle.std.specs.Ordering.{is_eq}
use Rattle.ul_version.specs.Order.{version_cmp}
use Rattle.ul_requirement.specs.Fields.{ReleaseFields}
use Rattle.ul_merge.proofs.releases.release_in.Given as goal

abbrev pub invariant-loop-release : goal.invariant-loop-release
invariant-loop-release l = find (λ (r : ReleaseFields). is_eq (version_cmp r.version l.version)) (drop l.release-index l.releases) ≡ find (λ (r : ReleaseFields). is_eq (version_cmp r.version l.version)) l.releases
