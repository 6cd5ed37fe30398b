use Rattle.std.proofs.Common.{◌++◌, ◌∙◌, ap, arith, map, subst, sym}
use Rattle.std.specs.Prelude.{option_to_list}
use Rattle.ul_comparison.specs.Formulas.{IsFormula}
use Rattle.ul_marker.specs.Views.{marker_view}
use Rattle.ul_requirement.specs.Fields.{MayBeFormula}
use Rattle.ul_project.specs.Sources.{SourceFields}
use Rattle.ul_groups.specs.Negated.{negated}
use Rattle.ul_groups.proofs.NegatedMarkers.{view_all}
use Rattle.ul_groups.proofs.SourceLists.{formulas_all, formulas_next, negation_next, negations_all}
use Rattle.ul_groups.proofs.sources.none_counts.Goals as goal

pub loop-source-preserved : goal.loop-source-preserved
loop-source-preserved c =
    let ss = c.args.sources.now in
    let made = c.in_ok-parts.ensures
    ∙ ap (λ (s : SourceFields). map marker_view c.loop-source.parts.items ++ map negated (option_to_list s.condition)) c.source.view_is in (
      negation_next ss c.loop-source.source-index c.source-item.result c.loop-source-test.true c.source-item.is
          (map marker_view c.loop-source.parts.items) (map marker_view c.in_ok-parts.parts.items) made c.loop-source.invariant.0,
      formulas_next ss c.loop-source.source-index c.source-item.result c.loop-source-test.true c.source-item.is c.loop-source.invariant.1
          (subst (λ (s : SourceFields). MayBeFormula s.condition) c.source.view_is c.source.invariant.condition),
    )

pub returns-clause-marker : goal.returns-clause-marker
returns-clause-marker c =
    view_all c.loop-source.parts
    ∙ negations_all c.args.sources.now c.loop-source.source-index (map marker_view c.loop-source.parts.items) (omega arith) c.loop-source.invariant.0

pub returns-clause-valid : goal.returns-clause-valid
returns-clause-valid c =
    subst IsFormula (sym (view_all c.loop-source.parts))
    (formulas_all c.args.sources.now c.loop-source.source-index (map marker_view c.loop-source.parts.items) (omega arith)
    c.loop-source.invariant.0 c.loop-source.invariant.1)
