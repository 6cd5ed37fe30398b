use Rattle.ul_derivation.proofs.Facts.{node_read, base_tested}
use Rattle.ul_derivation.proofs.checks.base_is_right.Goals as goal

pub returns-then-is_set_of : goal.returns-then-is_set_of
returns-then-is_set_of c =
    let h = c.is_set_of.ensures.0 c.if-is_set_of.true in
    base_tested c.args.problem.now c.args.node c.args.versions.now _ c.is_some.result
    (node_read c.args.problem.now c.nodes.result.now c.args.node c.index-nodes-node.result c.nodes.ensures.value h.0) c.is_some.ensures h
