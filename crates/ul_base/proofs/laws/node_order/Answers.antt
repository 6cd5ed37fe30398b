use Rattle.ul_base.specs.Nodes.{node_cmp-total}
use Rattle.ul_base.proofs.laws.node_order.Goals as goal

pub returns-clause-total : goal.returns-clause-total
returns-clause-total c = node_cmp-total
