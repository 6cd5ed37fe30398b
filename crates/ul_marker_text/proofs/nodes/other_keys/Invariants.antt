use Rattle.std.proofs.Common.{◌≡◌, drop}
use Rattle.ul_tree.specs.Fans.{other_part}
use Rattle.ul_marker_text.specs.Nodes.{parts_view}
use Rattle.ul_marker_text.proofs.nodes.other_keys.Given as goal

abbrev pub invariant-loop-index : goal.invariant-loop-index
invariant-loop-index l = other_part (parts_view (drop l.index l.parts.items)) ≡ other_part (parts_view l.parts.items)
