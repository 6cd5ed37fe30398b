use Rattle.std.proofs.Common.{◌≡◌, length}
use Rattle.ul_tree.specs.Fans.{pieces_from}
use Rattle.ul_nodes.specs.Keys.{then_branches}
use Rattle.ul_marker_text.specs.Nodes.{number_branches, parts_view}
use Rattle.ul_marker_text.proofs.nodes.pieces.Given as goal

abbrev pub invariant-loop-step : goal.invariant-loop-step
invariant-loop-step l = then_branches (number_branches l.made.items) (pieces_from l.next (parts_view l.parts.items)) ≡ pieces_from 0 (parts_view l.fn.parts.items)

abbrev pub decreases-loop-step : goal.decreases-loop-step
decreases-loop-step l = length l.parts.items
