use Rattle.std.proofs.Common.{◌≡◌, ◌+◌, ◌≤◌, suc}
use Rattle.ul_nodes.specs.Keys.{branches_of, branches_from}
use Rattle.ul_tree.specs.Paths.{paths_of, paths_in, levels_of, levels_in}
use Rattle.ul_tree.proofs.printable.+paths_left.Given as goal

abbrev pub decreases-paths_left : goal.decreases-paths_left
decreases-paths_left g l = l.levels

abbrev pub invariant-loop-index : goal.invariant-loop-index
invariant-loop-index g l = record {
  paths : paths_of (g.Kind.Nodes.tree l.node) + l.rest ≡ l.left + paths_in (branches_from l.index (branches_of (g.Kind.Nodes.tree l.node)));
  within : levels_in (branches_from l.index (branches_of (g.Kind.Nodes.tree l.node))) ≤ l.below → levels_of (g.Kind.Nodes.tree l.node) ≤ suc l.below;
  some : suc (levels_in (branches_from l.index (branches_of (g.Kind.Nodes.tree l.node)))) ≤ levels_of (g.Kind.Nodes.tree l.node);
}
