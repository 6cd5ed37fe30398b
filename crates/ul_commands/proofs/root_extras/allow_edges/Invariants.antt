use Rattle.std.proofs.Common.{◌≡◌, bytes_eq, drop, flat_map}
use Rattle.indexmap.specs.IndexSet.{insert_all}
use Rattle.ul_commands.specs.RootExtras.{asked_by_edge}
use Rattle.ul_commands.proofs.root_extras.allow_edges.Given as goal

abbrev pub invariant-loop-edge : goal.invariant-loop-edge
invariant-loop-edge l =
    insert_all bytes_eq l.names.keys (flat_map (asked_by_edge l.root) (drop l.edge-index l.edges))
    ≡ insert_all bytes_eq l.fn.names.keys (flat_map (asked_by_edge l.root) l.edges)
