use Rattle.std.proofs.Common.{◌≡◌, ◌++◌, drop}
use Rattle.ul_marker.specs.Parts.{atoms_in}
use Rattle.ul_marker.specs.Views.{markers_view}
use Rattle.ul_marker.proofs.marker.+atoms.Given as goal

abbrev pub invariant-add_part_atoms-loop-part : goal.invariant-add_part_atoms-loop-part
invariant-add_part_atoms-loop-part l =
    l.atoms.items ++ atoms_in (markers_view (drop l.part-index l.parts)) ≡ l.initial.atoms.items ++ atoms_in (markers_view l.parts)
