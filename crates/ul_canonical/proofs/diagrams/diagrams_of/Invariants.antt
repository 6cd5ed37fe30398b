use Rattle.std.proofs.Common.{map, take}
use Rattle.ul_interner.specs.Known.{Knows}
use Rattle.ul_marker.specs.Views.{marker_view}
use Rattle.ul_canonical.specs.Diagrams.{AreDiagramsOf}
use Rattle.ul_canonical.proofs.diagrams.diagrams_of.Given as goal

abbrev pub invariant-loop-marker : goal.invariant-loop-marker
invariant-loop-marker g l = record {
  knows : Knows l.initial.algebra l.algebra;
  made : AreDiagramsOf l.algebra (map marker_view (take l.marker-index l.markers)) l.diagrams.items;
}
