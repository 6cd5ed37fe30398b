use Rattle.std.proofs.Common.{map}
use Rattle.ul_requirement.specs.Truth.{targets}
use Rattle.ul_verify.specs.NodeIndexes.{HasEachTo}
use Rattle.ul_verify.proofs.node_index.requirements_index.Given as goal

abbrev pub invariant-loop-place : goal.invariant-loop-place
invariant-loop-place l = HasEachTo (map targets l.requirements) l.place l.entries.items
