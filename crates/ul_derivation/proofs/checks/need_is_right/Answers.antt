use Rattle.ul_derivation.proofs.Facts.{node_read, ok_then, rows_fit, needs_fit, need_tested}
use Rattle.ul_derivation.proofs.checks.need_is_right.Goals as goal

pub all_need-requires-clause-rows : goal.all_need-requires-clause-rows
all_need-requires-clause-rows c =
    let h = c.is_set_of.ensures.0 c.if-is_set_of.true in
    rows_fit c.args.problem.now c.args.node c.args.versions.now _ c.as_slice-rows.result.now c.nodes.ensures.whole
    (node_read c.args.problem.now c.nodes.result.now c.args.node c.index-nodes-node.result c.nodes.ensures.value h.0) c.as_slice-rows.ensures h

pub all_need-requires-clause-sizes : goal.all_need-requires-clause-sizes
all_need-requires-clause-sizes c = λ v need i f.
    let h = c.is_set_of.ensures.0 c.if-is_set_of.true in
    let k = c.is_set_of-then-is_set_of.ensures.0 c.if-is_set_of-2.true in
    needs_fit c.args.problem.now c.args.node c.args.target v c.args.permitted.now _ c.as_slice-rows.result.now need c.nodes.ensures.whole
    (node_read c.args.problem.now c.nodes.result.now c.args.node c.index-nodes-node.result c.nodes.ensures.value h.0) c.as_slice-rows.ensures k i f

pub returns-then-is_set_of-2 : goal.returns-then-is_set_of-2
returns-then-is_set_of-2 c =
    let h = c.is_set_of.ensures.0 c.if-is_set_of.true in
    let k = c.is_set_of-then-is_set_of.ensures.0 c.if-is_set_of-2.true in
    ok_then c.all_need.result _ _ c.all_need.ensures (λ b t. need_tested c.args.problem.now c.args.node c.args.target c.args.versions.now c.args.permitted.now _ c.as_slice-rows.result.now b
    (node_read c.args.problem.now c.nodes.result.now c.args.node c.index-nodes-node.result c.nodes.ensures.value h.0) c.as_slice-rows.ensures t h k)
