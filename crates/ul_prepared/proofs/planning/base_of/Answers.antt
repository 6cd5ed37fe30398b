use Rattle.std.proofs.Common.{subst, sym}
use Rattle.ul_prepared.specs.Places.{IsFound}
use Rattle.ul_prepared.proofs.PlaceFacts.{base_place}
use Rattle.ul_prepared.proofs.planning.base_of.Goals as goal

pub place_of-place-requires : goal.place_of-place-requires
place_of-place-requires c = subst (IsFound c.args.index.now) (sym c.in_ok-base.ensures) c.requires

pub returns : goal.returns
returns c = base_place c.args.index.now c.args.node.now c.in_ok-base.base c.is_none.result c.place_of-place.result c.is_none.ensures c.if-is_none.false c.in_ok-base.ensures c.place_of-place.ensures
