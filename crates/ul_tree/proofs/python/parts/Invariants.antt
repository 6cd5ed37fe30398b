use Rattle.std.proofs.Common.{◌≡◌, ◌∷◌, ◌++◌, drop, map}
use Rattle.ul_nodes.specs.Plain.{truth}
use Rattle.ul_tree.specs.Pieces.{flipping}
use Rattle.ul_tree.specs.Views.{tree_view}
use Rattle.ul_tree.proofs.python.parts.Given as goal

abbrev pub invariant-loop-start : goal.invariant-loop-start
invariant-loop-start l = map tree_view l.parts.items ++ flipping l.held (drop l.start-index l.starts) ≡ truth l.first ∷ flipping l.first l.starts
