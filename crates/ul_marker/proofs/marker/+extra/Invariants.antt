use Rattle.std.proofs.Common.{◌≡◌, drop}
use Rattle.ul_marker.specs.Parts.{some_asks_extra}
use Rattle.ul_marker.specs.Views.{markers_view}
use Rattle.ul_marker.proofs.marker.+extra.Given as goal

abbrev pub invariant-some_asks_extra-loop-part : goal.invariant-some_asks_extra-loop-part
invariant-some_asks_extra-loop-part l = some_asks_extra (markers_view (drop l.part-index l.parts)) ≡ some_asks_extra (markers_view l.parts)
