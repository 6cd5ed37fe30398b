use Rattle.std.proofs.Common.{◌≡◌, ◌++◌, map, take}
use Rattle.ul_requirement.specs.Truth.{with_extra}
use Rattle.ul_verify.specs.NodeIndexes.{entries_at, view_of}
use Rattle.ul_verify.proofs.node_index.put_extras.Given as goal

abbrev pub invariant-loop-extra : goal.invariant-loop-extra
invariant-loop-extra l = map view_of l.entries.items ≡ map view_of l.initial.entries.items ++ entries_at l.place (map (with_extra l.name) (take l.extra-index l.extras))
