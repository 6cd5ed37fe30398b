use Rattle.std.proofs.Common.{◌≡◌, drop}
use Rattle.ul_comparison.specs.Truth.{is_listed}
use Rattle.ul_comparison.proofs.truth.is_listed.Given as goal

abbrev pub invariant-loop-version : goal.invariant-loop-version
invariant-loop-version l = is_listed (drop l.version-index l.versions) l.release ≡ is_listed l.versions l.release
