use Rattle.std.proofs.Common.{◌≡◌, map, take}
use Rattle.ul_marker.specs.Views.{marker_view}
use Rattle.ul_groups.specs.Negated.{negated}
use Rattle.ul_groups.proofs.negation.+negated.Given as goal

abbrev pub invariant-each_negated-loop-part : goal.invariant-each_negated-loop-part
invariant-each_negated-loop-part l = map marker_view l.list.items ≡ map negated (map marker_view (take l.part-index l.parts))
