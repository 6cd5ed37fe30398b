use Rattle.std.proofs.Common.{◌≡◌, map, take}
use Rattle.ul_marker.specs.Views.{marker_view}
use Rattle.ul_marker_text.specs.Rows.{conjuncts}
use Rattle.ul_marker_text.specs.RowViews.{rows_view}
use Rattle.ul_marker_text.proofs.rows.paths.Given as goal

abbrev pub invariant-loop-part : goal.invariant-loop-part
invariant-loop-part l = rows_view l.found.items ≡ map conjuncts (map marker_view (take l.part-index l.parts))
