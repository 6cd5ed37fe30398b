use Rattle.std.proofs.Common.{◌≡◌, ◌∷◌, map, drop}
use Rattle.ul_tree.specs.Fans.{filled_points, other_part}
use Rattle.ul_nodes.specs.Keys.{then_branches}
use Rattle.ul_marker_text.specs.Nodes.{key_branches, parts_view}
use Rattle.ul_marker_text.specs.StepViews.{comparison_key}
use Rattle.ul_marker_text.proofs.nodes.filled.Given as goal

abbrev pub invariant-loop-key : goal.invariant-loop-key
invariant-loop-key l = record {
  made : then_branches (key_branches l.made.items) (filled_points (map comparison_key (drop l.key-index l.row)) (parts_view l.parts.items))
      ≡ filled_points (comparison_key l.first ∷ map comparison_key l.row) (parts_view l.fn.parts.items);
  other : other_part (parts_view l.parts.items) ≡ other_part (parts_view l.fn.parts.items);
}
