use Rattle.std.proofs.Common.{◌≡◌, map, take}
use Rattle.ul_marker.specs.Views.{marker_view}
use Rattle.ul_marker.proofs.marker.+copy.Given as goal

abbrev pub invariant-copy_parts-loop-part : goal.invariant-copy_parts-loop-part
invariant-copy_parts-loop-part l = map marker_view l.copied.items ≡ map marker_view (take l.part-index l.parts)
