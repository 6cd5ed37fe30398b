use Rattle.ul_requirement.specs.Fields.{RequirementFields}
use Rattle.ul_verify.specs.Places.{Meets}
use Rattle.ul_verify.proofs.PlaceFacts.{at_place, past_end}
use Rattle.ul_verify.proofs.places.is_met_at.Goals as goal

pub returns-then-place-requirements : goal.returns-then-place-requirements
returns-then-place-requirements c = past_end (λ (q : RequirementFields). Meets q c.args.edge.now) c.args.requirements.now c.args.place c.if-place-requirements.true

pub returns : goal.returns
returns c = at_place (λ (q : RequirementFields). Meets q c.args.edge.now) c.args.requirements.now c.args.place _ c.is_met.result c.if-place-requirements.false c.index-requirements-place.is c.is_met.ensures
