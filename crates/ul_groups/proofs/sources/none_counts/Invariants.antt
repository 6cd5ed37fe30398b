use Rattle.std.proofs.Common.{◌≡◌, map, take}
use Rattle.ul_comparison.specs.Formulas.{AreFormulas, formulas_of}
use Rattle.ul_marker.specs.Views.{marker_view}
use Rattle.ul_groups.specs.Negated.{negated}
use Rattle.ul_groups.specs.Sourced.{conditions_of}
use Rattle.ul_groups.proofs.sources.none_counts.Given as goal

abbrev pub invariant-loop-source : goal.invariant-loop-source
invariant-loop-source l =
    (map marker_view l.parts.items ≡ map negated (conditions_of (take l.source-index l.sources)))
    × AreFormulas (formulas_of (conditions_of (take l.source-index l.sources)))
