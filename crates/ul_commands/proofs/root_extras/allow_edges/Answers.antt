use Rattle.std.proofs.Common.{◌∙◌}
use Rattle.ul_commands.specs.RootExtras.{asked_by_edge}
use Rattle.ul_commands.proofs.RootExtras.{next_in}
use Rattle.ul_commands.proofs.root_extras.allow_edges.Goals as goal

pub loop-edge-preserved : goal.loop-edge-preserved
loop-edge-preserved c =
    next_in (asked_by_edge c.args.root.now) c.args.edges.now c.loop-edge.edge-index c.edge-item.result
    c.allow_edge.new.names.keys c.loop-edge.names.keys
    c.loop-edge-test.true c.edge-item.is c.in_ok-allow_edge.ensures
    ∙ c.loop-edge.invariant
