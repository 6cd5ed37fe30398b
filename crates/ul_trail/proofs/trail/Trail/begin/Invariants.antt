use Rattle.std.proofs.Common.{◌≡◌}
use Rattle.ul_trail.specs.First.{first_steps}
use Rattle.ul_trail.specs.Propagation.{IsTrailOf, root_facts}
use Rattle.ul_trail.proofs.trail.Trail.begin.Given as goal

abbrev pub invariant-loop-node : goal.invariant-loop-node
invariant-loop-node l = record {
  right : IsTrailOf l.problem l.trail;
  facts : l.trail.facts ≡ root_facts l.problem l.problem.roots;
  steps : l.trail.steps ≡ first_steps l.problem.nodes l.node;
}
