use Rattle.std.proofs.Common.{[], ap, sym, ◌∙◌}
use Rattle.ul_problem.specs.declared.problem.NodeFacts.{NodeFacts}
use Rattle.ul_problem.proofs.Rules.{needs_read}
use Rattle.ul_problem.proofs.problem.Problem.needs_at.Goals as goal

pub bounds-rows-version : goal.bounds-rows-version
bounds-rows-version c = (needs_read c.args.self.now c.nodes.result.now c.args.node c.args.version c.index-nodes-node.result c.as_slice-rows.result.now [] c.nodes.ensures.whole c.nodes.ensures.value c.requires.node c.index-nodes-node.is c.requires.version (c.as_slice-rows.ensures ∙ sym (ap (λ (f : NodeFacts). f.needs) c.index-nodes-node.is))).0

pub returns : goal.returns
returns c = c.as_slice.ensures ∙ (needs_read c.args.self.now c.nodes.result.now c.args.node c.args.version c.index-nodes-node.result c.as_slice-rows.result.now c.index-rows-version.result c.nodes.ensures.whole c.nodes.ensures.value c.requires.node c.index-nodes-node.is c.requires.version (c.as_slice-rows.ensures ∙ sym (ap (λ (f : NodeFacts). f.needs) c.index-nodes-node.is))).1 c.index-rows-version.is
