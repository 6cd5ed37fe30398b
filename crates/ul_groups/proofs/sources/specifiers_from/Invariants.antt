use Rattle.std.proofs.Common.{◌≡◌, take}
use Rattle.std.specs.Prelude.{option_map}
use Rattle.ul_groups.specs.Sourced.{clauses_from}
use Rattle.ul_groups.proofs.sources.specifiers_from.Given as goal

abbrev pub invariant-loop-release : goal.invariant-loop-release
invariant-loop-release l = l.specifiers ≡ clauses_from (option_map (λ n. n.now) l.source) (take l.release-index l.releases)
