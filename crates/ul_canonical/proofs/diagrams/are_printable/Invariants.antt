use Rattle.std.proofs.Common.{◌≡◌, drop}
use Rattle.std.specs.List.{list_all}
use Rattle.ul_algebra.specs.Spelled.{tree_of}
use Rattle.ul_tree.specs.Paths.{is_printable}
use Rattle.ul_canonical.proofs.diagrams.are_printable.Given as goal

abbrev pub invariant-loop-diagram : goal.invariant-loop-diagram
invariant-loop-diagram l = list_all (λ m. is_printable (tree_of m)) (drop l.diagram-index l.diagrams) ≡ list_all (λ m. is_printable (tree_of m)) l.diagrams
