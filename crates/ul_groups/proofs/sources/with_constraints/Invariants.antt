use Rattle.std.proofs.Common.{◌≡◌, ◌++◌, map, take}
use Rattle.ul_groups.specs.Sourced.{source_constraint}
use Rattle.ul_groups.proofs.sources.with_constraints.Given as goal

abbrev pub invariant-loop-source : goal.invariant-loop-source
invariant-loop-source l = l.list.items ≡ l.initial.list.items ++ map (source_constraint l.name l.releases) (take l.source-index l.sources)
