use Rattle.std.proofs.Common.{subst}
use Rattle.ul_marker.specs.PrintedViews.{IsNoComparison}
use Rattle.ul_marker.specs.Views.{marker_view}
use Rattle.ul_marker.specs.declared.marker.Marker.{Marker}
use Rattle.ul_marker_text.proofs.RowsBack.{no_row_with}
use Rattle.ul_marker_text.specs.StepViews.{said}
use Rattle.ul_marker_text.proofs.Mapped.{mapped_next}
use Rattle.ul_marker_text.proofs.rows.comparisons.Goals as goal

pub returns-in-Err-clause-refused : goal.returns-in-Err-clause-refused
returns-in-Err-clause-refused c e cs =
    no_row_with cs c.args.parts.now c.loop-part.part-index c.part-item.result c.loop-part-test.true (subst (λ (m : Marker). IsNoComparison (marker_view m)) c.part-item.is c.in-Err.ensures.refused.1)

pub loop-part-preserved : goal.loop-part-preserved
loop-part-preserved c =
    mapped_next _ _ c.args.parts.now c.loop-part.part-index c.part-item.result c.in-Ok.comparison said marker_view c.in_ok-push-in-Ok.ensures.items c.in-Ok.ensures.said
    c.loop-part-test.true c.part-item.is c.loop-part.invariant
