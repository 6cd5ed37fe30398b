use Rattle.std.proofs.Common.{◌≡◌, length}
use Rattle.ul_tree.specs.Fans.{listed_points}
use Rattle.ul_nodes.specs.Keys.{then_branches}
use Rattle.ul_marker_text.specs.Nodes.{key_branches, parts_view}
use Rattle.ul_marker_text.proofs.nodes.listed.Given as goal

abbrev pub invariant-loop-step : goal.invariant-loop-step
invariant-loop-step l = then_branches (key_branches l.made.items) (listed_points (parts_view l.parts.items)) ≡ listed_points (parts_view l.fn.parts.items)

abbrev pub decreases-loop-step : goal.decreases-loop-step
decreases-loop-step l = length l.parts.items
