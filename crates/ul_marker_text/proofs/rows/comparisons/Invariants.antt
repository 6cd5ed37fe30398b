use Rattle.std.proofs.Common.{◌≡◌, map, take}
use Rattle.ul_marker.specs.Views.{marker_view}
use Rattle.ul_marker_text.specs.StepViews.{said}
use Rattle.ul_marker_text.proofs.rows.comparisons.Given as goal

abbrev pub invariant-loop-part : goal.invariant-loop-part
invariant-loop-part l = map said l.found.items ≡ map marker_view (take l.part-index l.parts)
