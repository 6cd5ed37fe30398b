use Rattle.std.proofs.Common.{arith, subst}
use Rattle.ul_requirement.specs.Fields.{RequirementFields}
use Rattle.ul_requirement.specs.Truth.{marker_names}
use Rattle.ul_region.specs.Extras.{HasNamed}
use Rattle.ul_region.proofs.ExtraFacts.{index_all, index_more}
use Rattle.ul_region.proofs.extra_index.ExtraIndex.of.Goals as goal

pub loop-place-preserved : goal.loop-place-preserved
loop-place-preserved c =
    let named = subst (λ (r : RequirementFields). HasNamed (marker_names r.marker) c.loop-place.place c.loop-place.index c.in_ok-index.index) c.requirement.view_is c.in_ok-index.ensures in
    index_more c.args.requirements.now c.loop-place.place c.index-requirements-place.result c.loop-place.index c.in_ok-index.index
    (omega arith) c.index-requirements-place.is named c.loop-place.invariant

pub returns : goal.returns
returns c = index_all c.args.requirements.now c.loop-place.place c.loop-place.index (omega arith) c.loop-place.invariant
