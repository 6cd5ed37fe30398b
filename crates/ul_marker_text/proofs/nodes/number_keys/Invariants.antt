use Rattle.ul_nodes.specs.Levels.{python_level}
use Rattle.ul_marker_text.specs.Nodes.{number_branches}
use Rattle.ul_marker_text.proofs.PartFacts.{KeysLeft}
use Rattle.ul_marker_text.proofs.nodes.number_keys.Given as goal

abbrev pub invariant-loop-number : goal.invariant-loop-number
invariant-loop-number l = KeysLeft python_level l.made.items (number_branches l.number-iterator.rest.items) (number_branches l.fn.pieces.items)
