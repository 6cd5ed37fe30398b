use Rattle.std.proofs.Common.{arith}
use Rattle.ul_problem.proofs.Loops.{ok_then, node_tested}
use Rattle.ul_problem.proofs.fitting.is_node_of.Goals as goal

pub returns-clause-fits : goal.returns-clause-fits
returns-clause-fits c = ok_then c.is_order_of.result _ _ c.is_order_of.ensures
    (λ b t. node_tested c.args.nodes.now c.args.facts.now _ _ c.as_slice-versions.result.now c.as_slice-rows.result.now b
    c.as_slice-versions.ensures c.as_slice-rows.ensures c.as_vec.ensures c.size-2.ensures (omega arith) (omega arith)
    (c.versions_increase.ensures.0 c.if-not-versions_increase.false) (c.has_base.ensures.0 c.if-not-has_base.false) (c.are_rows.ensures.fits.0 c.if-not-are_rows.false) t)
