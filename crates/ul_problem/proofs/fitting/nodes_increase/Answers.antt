use Rattle.std.proofs.Common.{refl, arith, sym, ◌∙◌}
use Rattle.ul_problem.specs.Problems.{NodeBefore}
use Rattle.ul_problem.proofs.Loops.{less_of, rises_more, rises_all}
use Rattle.ul_problem.proofs.fitting.nodes_increase.Goals as goal

pub loop-k-preserved : goal.loop-k-preserved
loop-k-preserved c = rises_more NodeBefore c.args.nodes.now c.loop-k.k c.index-nodes-k.result c.index-nodes-k-in-loop-k.result _ (omega arith) (omega arith) (sym c.cmp.ensures ∙ less_of c.cmp.result c.ne.result c.ne.ensures c.if-ne.false) c.loop-k.invariant

pub returns : goal.returns
returns c = ((λ t. rises_all NodeBefore c.args.nodes.now c.loop-k.k _ (omega arith) c.loop-k.invariant), (λ h. refl))
