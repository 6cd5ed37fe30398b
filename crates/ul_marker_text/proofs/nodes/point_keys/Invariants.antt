use Rattle.ul_nodes.specs.Keys.{level_view}
use Rattle.ul_marker_text.specs.Nodes.{key_branches}
use Rattle.ul_marker_text.proofs.PartFacts.{KeysLeft}
use Rattle.ul_marker_text.proofs.nodes.point_keys.Given as goal

abbrev pub invariant-loop-comparison : goal.invariant-loop-comparison
invariant-loop-comparison l = KeysLeft (level_view l.level) l.made.items (key_branches l.comparison-iterator.rest.items) (key_branches l.fn.points.items)
