use Rattle.std.proofs.Common.{◌≡◌, drop}
use Rattle.ul_version.specs.Order.{numbers_cmp, padded_release, release_cmp}
use Rattle.ul_version.proofs.public.cmp_releases.Given as goal

abbrev pub invariant-loop-i : goal.invariant-loop-i
invariant-loop-i l = release_cmp l.release l.other ≡ numbers_cmp (drop l.i (padded_release l.size l.release)) (drop l.i (padded_release l.size l.other))
