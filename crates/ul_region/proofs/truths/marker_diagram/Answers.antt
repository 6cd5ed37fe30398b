use Rattle.std.proofs.Common.{Option, ap, subst}
use Rattle.std.specs.Prelude.{IfOk}
use Rattle.ul_comparison.specs.Formulas.{Formula}
use Rattle.ul_requirement.specs.Fields.{RequirementFields}
use Rattle.ul_requirement.specs.Truth.{may_hold}
use Rattle.ul_region.specs.Truths.{HoldsAs}
use Rattle.ul_region.proofs.truths.marker_diagram.Goals as goal

pub returns-clause-truth : goal.returns-clause-truth
returns-clause-truth g c = subst (λ (o : Option Formula). IfOk c.optional_diagram.result (λ d. HoldsAs d (may_hold o))) (ap (λ (q : RequirementFields). q.marker) c.requirement.view_is) c.optional_diagram.ensures.truth
