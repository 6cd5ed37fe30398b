use Rattle.std.proofs.Common.{◌≡◌, take}
use Rattle.ul_groups.specs.Sourced.{constraints_of}
use Rattle.ul_groups.proofs.sources.source_constraints.Given as goal

abbrev pub invariant-loop-named : goal.invariant-loop-named
invariant-loop-named l = l.list.items ≡ constraints_of (take l.named-index l.sources) l.catalog
