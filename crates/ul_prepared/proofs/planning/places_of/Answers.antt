use Rattle.std.proofs.Common.{subst, sym}
use Rattle.std.specs.List.{AllZip}
use Rattle.std.proofs.lemmas.List.{take_all}
use Rattle.std.proofs.lemmas.List.Elements.{All-get_or}
use Rattle.ul_prepared.specs.Places.{IsFound, IsFoundAt}
use Rattle.ul_prepared.proofs.Zipped.{made_second}
use Rattle.ul_prepared.proofs.planning.places_of.Goals as goal

pub place_of-place-requires : goal.place_of-place-requires
place_of-place-requires c =
    let found = IsFound c.args.index.now in
    subst found (sym c.start-item.is) (All-get_or found c.args.starts.now c.loop-start.start-index c.start-item.result c.loop-start-test.true c.requires)

pub loop-start-preserved : goal.loop-start-preserved
loop-start-preserved c = made_second (IsFoundAt c.args.index.now) c.args.starts.now c.loop-start.places.items c.push.new.self.items c.loop-start.start-index c.start-item.result c.place_of-place.result
    c.in_ok-push.ensures.items c.loop-start.invariant c.place_of-place.ensures c.loop-start-test.true c.start-item.is

pub returns : goal.returns
returns c = subst (λ ns. AllZip (IsFoundAt c.args.index.now) ns c.loop-start.places.items) (take_all c.loop-start.start-index c.args.starts.now c.loop-start-test.false) c.loop-start.invariant
