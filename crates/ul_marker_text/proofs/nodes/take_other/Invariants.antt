use Rattle.std.proofs.Common.{◌≡◌, length}
use Rattle.ul_tree.specs.Fans.{other_part}
use Rattle.ul_marker_text.specs.Nodes.{parts_view}
use Rattle.ul_marker_text.proofs.nodes.take_other.Given as goal

abbrev pub invariant-loop-step : goal.invariant-loop-step
invariant-loop-step l = other_part (parts_view l.parts.items) ≡ other_part (parts_view l.fn.parts.items)

abbrev pub decreases-loop-step : goal.decreases-loop-step
decreases-loop-step l = length l.parts.items
