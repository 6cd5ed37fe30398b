use Rattle.std.proofs.Common.{◌≡◌, drop, flat_map}
use Rattle.ul_marker.specs.Parts.{atoms_of}
use Rattle.ul_marker.specs.Views.{marker_view}
use Rattle.ul_load.specs.Loading.{comparisons_with}
use Rattle.ul_load.specs.Views.{atoms_view}
use Rattle.ul_load.proofs.comparisons.Comparisons.add_markers.Given as goal

abbrev pub invariant-loop-marker : goal.invariant-loop-marker
invariant-loop-marker l =
    comparisons_with (atoms_view l.self) (flat_map (λ m. atoms_of (marker_view m)) (drop l.marker-index l.markers))
    ≡ comparisons_with (atoms_view l.fn.self) (flat_map (λ m. atoms_of (marker_view m)) l.markers)
