use Rattle.std.proofs.Common.{◌≡◌, length, map, string_bytes}
use Rattle.ul_nodes.specs.Closing.{keyed_branches}
use Rattle.ul_nodes.specs.Keys.{then_branches}
use Rattle.ul_tree.specs.Views.{tree_view, points_view}
use Rattle.ul_tree.proofs.join.points_of.Given as goal

abbrev pub invariant-loop-text : goal.invariant-loop-text
invariant-loop-text l = record {
  made : then_branches (points_view l.points.items) (keyed_branches (map string_bytes l.text-iterator.rest.items) (map tree_view l.left.rest.items)) ≡ keyed_branches (map string_bytes l.fn.texts.items) (map tree_view l.fn.parts.items);
  even : length l.text-iterator.rest.items ≡ length l.left.rest.items;
}
