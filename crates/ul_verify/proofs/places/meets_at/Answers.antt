use Rattle.ul_verify.specs.Places.{Meets}
use Rattle.ul_verify.proofs.PlaceFacts.{at_place, past_end}
use Rattle.ul_verify.proofs.places.meets_at.Goals as goal

pub returns-then-place-edges : goal.returns-then-place-edges
returns-then-place-edges c = past_end (Meets c.args.requirement.now) c.args.edges.now c.args.place c.if-place-edges.true

pub returns : goal.returns
returns c = at_place (Meets c.args.requirement.now) c.args.edges.now c.args.place _ c.is_met.result c.if-place-edges.false c.index-edges-place.is c.is_met.ensures
