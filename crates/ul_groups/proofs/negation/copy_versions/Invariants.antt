use Rattle.std.proofs.Common.{◌≡◌, take}
use Rattle.ul_groups.proofs.negation.copy_versions.Given as goal

abbrev pub invariant-loop-version : goal.invariant-loop-version
invariant-loop-version l = l.list.items ≡ take l.version-index l.versions
