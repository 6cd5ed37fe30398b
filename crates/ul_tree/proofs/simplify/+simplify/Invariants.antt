use Rattle.std.proofs.Common.{◌++◌, ◌*◌, ◌+◌, drop}
use Rattle.ul_nodes.specs.Apply.{size}
use Rattle.ul_tree.specs.Views.{tree_view}
use Rattle.ul_nodes.specs.Keys.{level_view, keys_view, KeysOf}
use Rattle.ul_nodes.specs.Rows.{Results, results_view}
use Rattle.ul_tree.specs.Simplify.{Pieces}
use Rattle.ul_tree.proofs.simplify.+simplify.Given as goal

abbrev pub decreases-piece : goal.decreases-piece
decreases-piece l = 5 * size (tree_view l.whole.now) + 4

abbrev pub decreases-simplified : goal.decreases-simplified
decreases-simplified l = 5 * size (tree_view l.whole.now) + 3

abbrev pub decreases-simplified_at : goal.decreases-simplified_at
decreases-simplified_at l = 5 * size (tree_view l.whole.now) + 2

abbrev pub decreases-pieces : goal.decreases-pieces
decreases-pieces l = 5 * size (tree_view l.whole.now) + 1

abbrev pub decreases-results : goal.decreases-results
decreases-results l = 5 * size (tree_view l.whole.now)

abbrev pub invariant-results-loop-key : goal.invariant-results-loop-key
invariant-results-loop-key l = record {
  pieces : (rs : Results) → Pieces (level_view l.level) (tree_view l.whole) (tree_view l.region) (keys_view (drop l.key-index l.keys)) rs
      → Pieces (level_view l.level) (tree_view l.whole) (tree_view l.region) (keys_view l.keys) (results_view tree_view l.made.items ++ rs);
  kinds : KeysOf (level_view l.level) l.made.items;
}
