use Rattle.ul_report.proofs.Written.{facts_found}
use Rattle.ul_report.proofs.step_lines.facts_at.Goals as goal

pub returns : goal.returns
returns c = facts_found c.args.problem.now c.nodes.result.now c.args.node c.index-nodes-node.result c.nodes.ensures.value c.requires c.index-nodes-node.is
