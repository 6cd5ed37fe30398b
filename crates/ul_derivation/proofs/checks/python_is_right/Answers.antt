use Rattle.ul_derivation.proofs.Facts.{node_read, python_sizes, python_tested}
use Rattle.ul_derivation.proofs.checks.python_is_right.Goals as goal

pub is_within-requires : goal.is_within-requires
is_within-requires c =
    let h = c.is_set_of.ensures.0 c.if-is_set_of.true in
    python_sizes c.args.problem.now c.args.node c.args.versions.now _ c.nodes.ensures.whole
    (node_read c.args.problem.now c.nodes.result.now c.args.node c.index-nodes-node.result c.nodes.ensures.value h.0) h

pub returns-then-is_set_of : goal.returns-then-is_set_of
returns-then-is_set_of c =
    let h = c.is_set_of.ensures.0 c.if-is_set_of.true in
    python_tested c.args.problem.now c.args.node c.args.versions.now _ c.is_within.result
    (node_read c.args.problem.now c.nodes.result.now c.args.node c.index-nodes-node.result c.nodes.ensures.value h.0) c.is_within.ensures h
