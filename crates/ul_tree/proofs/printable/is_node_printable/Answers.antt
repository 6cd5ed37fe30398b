use Rattle.ul_tree.proofs.PathsLeft.{printed_as}
use Rattle.ul_tree.proofs.printable.is_node_printable.Goals as goal

pub returns : goal.returns
returns g c = printed_as (g.Kind.Nodes.tree c.args.node.now) c.paths_left.result c.is_some.result c.paths_left.ensures c.is_some.ensures
