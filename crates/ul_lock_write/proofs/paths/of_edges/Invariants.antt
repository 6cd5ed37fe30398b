use Rattle.std.proofs.Common.{◌≡◌, drop}
use Rattle.std.specs.Prelude.{flat_map}
use Rattle.ul_lock_write.specs.Markers.{edge_marker, first_over}
use Rattle.ul_lock_write.proofs.paths.of_edges.Given as goal

abbrev pub invariant-loop-edge : goal.invariant-loop-edge
invariant-loop-edge l = first_over (flat_map edge_marker (drop l.edge-index l.edges)) ≡ first_over (flat_map edge_marker l.edges)
