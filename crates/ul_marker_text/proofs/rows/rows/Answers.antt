use Rattle.std.proofs.Common.{◌≡◌, ap, ◌∙◌, subst, List, map}
use Rattle.std.specs.Prelude.{IfOk}
use Rattle.ul_comparison.specs.Formulas.{Formula}
use Rattle.ul_marker.specs.Views.{marker_view}
use Rattle.ul_marker_text.specs.Rows.{conjuncts}
use Rattle.ul_marker_text.specs.RowViews.{rows_view, NoPathIn}
use Rattle.ul_marker_text.proofs.RowsBack.{any_parts, any_is, no_rows_any}
use Rattle.ul_marker_text.proofs.rows.rows.Goals as goal

pub returns-in-Any-clause-said : goal.returns-in-Any-clause-said
returns-in-Any-clause-said c =
    subst (λ (z : List Formula). IfOk c.paths.result (λ v. rows_view v.items ≡ map conjuncts z)) (ap (map marker_view) c.deref.ensures.value ∙ any_parts c.args.marker.now c.in-Any.parts c.in-Any.is) c.paths.ensures.said

pub returns-in-Any-clause-refused : goal.returns-in-Any-clause-refused
returns-in-Any-clause-refused c e =
    no_rows_any (marker_view c.args.marker.now) _ (any_is c.args.marker.now c.in-Any.parts c.in-Any.is) (subst (λ (z : List Formula). NoPathIn z) (ap (map marker_view) c.deref.ensures.value) (c.paths.ensures.refused e))
