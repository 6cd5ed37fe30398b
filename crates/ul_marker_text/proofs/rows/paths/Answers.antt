use Rattle.std.proofs.Common.{subst, map}
use Rattle.std.specs.Prelude.{Vec}
use Rattle.std.specs.declared.alloc.Global.{Global}
use Rattle.ul_marker.specs.declared.printed.Comparison.{Comparison}
use Rattle.ul_marker.specs.Views.{marker_view}
use Rattle.ul_marker.specs.declared.marker.Marker.{Marker}
use Rattle.ul_marker_text.specs.Rows.{IsNoRow, conjuncts}
use Rattle.ul_marker_text.proofs.RowsBack.{no_path_with}
use Rattle.ul_marker_text.proofs.Faulty.{same_fault}
use Rattle.ul_marker_text.specs.StepViews.{said}
use Rattle.ul_marker_text.proofs.Mapped.{mapped_twice_next}
use Rattle.ul_marker_text.proofs.rows.paths.Goals as goal

pub returns-in-Err-clause-refused : goal.returns-in-Err-clause-refused
returns-in-Err-clause-refused c e ps =
    no_path_with ps c.args.parts.now c.loop-part.part-index c.part-item.result c.loop-part-test.true
    (subst (λ (m : Marker). IsNoRow (conjuncts (marker_view m))) c.part-item.is (c.in-Err.ensures.refused (same_fault c.in-Err.fault e)))

pub loop-part-preserved : goal.loop-part-preserved
loop-part-preserved c =
    mapped_twice_next _ _ c.args.parts.now c.loop-part.part-index c.part-item.result c.in-Ok.row (λ (row : Vec Comparison Global). map said row.items) marker_view conjuncts
    c.in_ok-push.ensures.items c.in-Ok.ensures.said c.loop-part-test.true c.part-item.is c.loop-part.invariant
