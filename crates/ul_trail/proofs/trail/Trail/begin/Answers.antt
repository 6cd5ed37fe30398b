use Rattle.std.proofs.Common.{◌≡◌, ℕ, List, length, ◌∙◌, ap, arith}
use Rattle.ul_problem.specs.declared.problem.NodeFacts.{NodeFacts}
use Rattle.ul_trail.specs.First.{first_steps}
use Rattle.ul_trail.proofs.Firsts.{first_next, has_pythons, node_read, node_is_right, node_is_forbidden}
use Rattle.ul_trail.proofs.trail.Trail.begin.Goals as goal

pub learn-requires-clause-learned : goal.learn-requires-clause-learned
learn-requires-clause-learned c = node_is_right c.args.problem.now c.loop-node.trail.steps c.in_ok-steps.steps.items c.loop-node.node c.index-nodes-node.result c.nodes-nodes.ensures.whole
    (node_read c.args.problem.now c.nodes-nodes.result.now c.loop-node.node c.index-nodes-node.result c.nodes-nodes.ensures.value c.loop-node-test.true c.index-nodes-node.is)
    c.in_ok-steps.ensures

pub learn-requires-clause-forbidden : goal.learn-requires-clause-forbidden
learn-requires-clause-forbidden c = node_is_forbidden c.args.problem.now c.in_ok-steps.steps.items c.loop-node.node c.index-nodes-node.result c.nodes-nodes.ensures.whole
    (node_read c.args.problem.now c.nodes-nodes.result.now c.loop-node.node c.index-nodes-node.result c.nodes-nodes.ensures.value c.loop-node-test.true c.index-nodes-node.is)
    c.in_ok-steps.ensures

pub loop-node-preserved : goal.loop-node-preserved
loop-node-preserved c = record {
  right = c.in_ok-learn.ensures.kept;
  facts = c.in_ok-learn.ensures.facts ∙ c.loop-node.invariant.facts;
  steps = first_next c.args.problem.now.nodes c.loop-node.node c.index-nodes-node.result c.loop-node.trail.steps c.in_ok-steps.steps.items c.learn.new.self.steps
      (node_read c.args.problem.now c.nodes-nodes.result.now c.loop-node.node c.index-nodes-node.result c.nodes-nodes.ensures.value c.loop-node-test.true c.index-nodes-node.is)
      c.loop-node.invariant.steps c.in_ok-steps.ensures c.in_ok-learn.ensures.steps;
}

pub returns-clause-pythons : goal.returns-clause-pythons
returns-clause-pythons c =
    let size : c.loop-node.node ≡ length c.nodes-nodes.result.now = omega (arith, c.loop-node-test.false, c.loop-node.auto.node-end) in
    has_pythons c.args.problem.now c.loop-node.trail.steps c.nodes-nodes.ensures.whole
    (c.loop-node.invariant.steps ∙ ap (λ (n : ℕ). first_steps c.args.problem.now.nodes n) (size ∙ ap (λ (x : List NodeFacts). length x) c.nodes-nodes.ensures.value))
