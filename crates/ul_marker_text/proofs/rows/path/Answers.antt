use Rattle.std.proofs.Common.{◌≡◌, ap, ◌∙◌, subst, List, map}
use Rattle.std.specs.Prelude.{IfOk}
use Rattle.ul_comparison.specs.Formulas.{Formula}
use Rattle.ul_marker.specs.Views.{marker_view}
use Rattle.ul_marker_text.specs.Rows.{IsNoRow}
use Rattle.ul_marker_text.specs.StepViews.{said}
use Rattle.ul_marker_text.proofs.RowsBack.{all_parts}
use Rattle.ul_marker_text.proofs.rows.path.Goals as goal

pub returns-in-All-clause-said : goal.returns-in-All-clause-said
returns-in-All-clause-said c =
    subst (λ (z : List Formula). IfOk c.comparisons.result (λ v. map said v.items ≡ z)) (ap (map marker_view) c.deref.ensures.value ∙ all_parts c.args.part.now c.in-All.parts c.in-All.is) c.comparisons.ensures.said

pub returns-in-All-clause-refused : goal.returns-in-All-clause-refused
returns-in-All-clause-refused c e =
    subst (λ (z : List Formula). IsNoRow z) (ap (map marker_view) c.deref.ensures.value ∙ all_parts c.args.part.now c.in-All.parts c.in-All.is) (c.comparisons.ensures.refused e)
