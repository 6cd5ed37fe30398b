use Rattle.std.proofs.Common.{Option, option_map, sym, subst}
use Rattle.std.specs.Prelude.{IfOk}
use Rattle.ul_marker.specs.Views.{marker_view}
use Rattle.ul_marker.specs.declared.marker.Marker.{Marker}
use Rattle.ul_requirement.specs.Truth.{may_hold}
use Rattle.ul_region.specs.Truths.{HoldsAs}
use Rattle.ul_region.proofs.truths.optional_diagram.Goals as goal

pub returns-in-None-clause-truth : goal.returns-in-None-clause-truth
returns-in-None-clause-truth g c = subst (λ (o : Option Marker). IfOk c.truth_diagram.result (λ d. HoldsAs d (may_hold (option_map marker_view o)))) (sym c.in-None.is) c.truth_diagram.ensures.truth

pub returns-in-Some-clause-truth : goal.returns-in-Some-clause-truth
returns-in-Some-clause-truth g c = subst (λ (o : Option Marker). IfOk c.diagram_of.result (λ d. HoldsAs d (may_hold (option_map marker_view o)))) (sym c.in-Some.is) c.diagram_of.ensures.truth
