use Rattle.std.proofs.Common.{◌≡◌, ◌-◌, ◌≤◌, Some}
use Rattle.ul_nodes.specs.Plain.{pick}
use Rattle.ul_nodes.specs.Reduced.{StartsAfter}
use Rattle.ul_nodes.specs.Keys.{key_view, rest_of, branches_of, branch_count, branches_from}
use Rattle.ul_nodes.proofs.nodes.part_of.Given as goal

abbrev pub invariant-loop-low : goal.invariant-loop-low
invariant-loop-low g l = record {
  ordered : l.low ≤ l.high;
  within : l.high ≤ branch_count (branches_of (g.Kind.Nodes.tree l.node));
  left : pick (branches_of (g.Kind.Nodes.tree l.node)) l.carried (key_view l.value) (rest_of (g.Kind.Nodes.tree l.node)) ≡ pick (branches_from l.low (branches_of (g.Kind.Nodes.tree l.node))) l.carried (key_view l.value) (g.Kind.Nodes.tree l.found);
  above : StartsAfter (Some (key_view l.value)) (branches_from l.high (branches_of (g.Kind.Nodes.tree l.node)));
  below : g.Kind.Nodes.below l.node l.found;
}

abbrev pub decreases-loop-low : goal.decreases-loop-low
decreases-loop-low g l = l.high - l.low
