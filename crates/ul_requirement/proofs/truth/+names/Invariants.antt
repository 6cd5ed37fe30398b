use Rattle.std.proofs.Common.{◌≡◌, drop}
use Rattle.ul_marker.specs.Views.{markers_view}
use Rattle.ul_requirement.specs.Truth.{some_names_extra}
use Rattle.ul_requirement.proofs.truth.+names.Given as goal

abbrev pub invariant-some_names_extra-loop-part : goal.invariant-some_names_extra-loop-part
invariant-some_names_extra-loop-part l = some_names_extra l.extra (markers_view (drop l.part-index l.parts)) ≡ some_names_extra l.extra (markers_view l.parts)
