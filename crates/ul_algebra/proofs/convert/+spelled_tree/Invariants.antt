use Rattle.std.proofs.Common.{◌≡◌, ◌+◌, ◌*◌, true}
use Rattle.std.specs.List.{All}
use Rattle.ul_nodes.specs.Apply.{size}
use Rattle.ul_nodes.specs.Keys.{level_view, has_kind, branches_of, branches_from, then_branches}
use Rattle.ul_nodes.specs.Rows.{made_view}
use Rattle.ul_tree.specs.Views.{tree_view}
use Rattle.ul_algebra.specs.Spelled.{tree_of}
use Rattle.ul_algebra.proofs.convert.+spelled_tree.Given as goal

abbrev pub decreases-spelled_tree : goal.decreases-spelled_tree
decreases-spelled_tree l = 2 * size (tree_of l.diagram.now) + 1

abbrev pub decreases-trees_in : goal.decreases-trees_in
decreases-trees_in l = 2 * size (tree_of l.diagram.now)

abbrev pub invariant-trees_in-loop-index : goal.invariant-trees_in-loop-index
invariant-trees_in-loop-index l = record {
  made : then_branches (made_view tree_view l.made.items) (branches_from l.index (branches_of (tree_of l.diagram))) ≡ branches_of (tree_of l.diagram);
  kinds : All (λ e. has_kind (level_view l.level) e.0 ≡ true) l.made.items;
}
