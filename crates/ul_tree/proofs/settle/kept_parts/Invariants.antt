use Rattle.std.proofs.Common.{◌≡◌, ◌++◌, List, ℕ}
use Rattle.ul_tree.specs.Views.{tree_view}
use Rattle.ul_tree.specs.SimplifyViews.{kept_results}
use Rattle.ul_nodes.specs.Rows.{results_view, parts_view, last_part}
use Rattle.ul_nodes.specs.Keys.{KeysOf}
use Rattle.ul_tree.proofs.settle.kept_parts.Given as goal

abbrev pub invariant-loop-key : goal.invariant-loop-key
invariant-loop-key l = record {
  left : parts_view tree_view l.parts.items ++ kept_results l.carried (results_view tree_view l.key-iterator.rest.items) (last_part (parts_view tree_view l.parts.items) (tree_view l.first)) ≡ kept_results l.carried (results_view tree_view l.fn.results.items) (tree_view l.first);
  kinds : (i : List ℕ) → KeysOf i l.fn.results.items → KeysOf i l.parts.items × KeysOf i l.key-iterator.rest.items;
}
