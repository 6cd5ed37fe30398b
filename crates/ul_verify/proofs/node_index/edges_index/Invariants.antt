use Rattle.std.proofs.Common.{map}
use Rattle.ul_verify.specs.NodeIndexes.{HasEachTo, edge_targets}
use Rattle.ul_verify.proofs.node_index.edges_index.Given as goal

abbrev pub invariant-loop-place : goal.invariant-loop-place
invariant-loop-place l = HasEachTo (map edge_targets l.edges) l.place l.entries.items
