use Rattle.std.proofs.Common.{◌≡◌, take}
use Rattle.ul_prepared.specs.Lists.{lists_of}
use Rattle.ul_prepared.proofs.shared.lists_by_extra.Given as goal

abbrev pub invariant-loop-requirements : goal.invariant-loop-requirements
invariant-loop-requirements l = l.found.items ≡ lists_of (take l.requirements-index l.lists)
