use Rattle.std.proofs.Common.{◌∙◌, arith}
use Rattle.ul_reach.proofs.Listing.{listed_more, none_listed}
use Rattle.ul_reach.proofs.order.listed.Goals as goal

pub loop-place-init : goal.loop-place-init
loop-place-init c = record {
  long = omega (arith, c.in_ok-flags.ensures.len, c.in_ok-flags.flags.ok);
  each = none_listed _ c.args.count c.args.places.now (c.in_ok-flags.ensures.items_if_clones_equal (λ a b. b));
}

pub loop-place-preserved : goal.loop-place-preserved
loop-place-preserved c = record {
  long = c.flag.ensures.long ∙ c.loop-place.invariant.long;
  each = listed_more _ _ c.args.places.now c.loop-place.place-index _ c.loop-place-test.true c.flag.ensures.only c.loop-place.invariant.each;
}

pub returns-clause-long : goal.returns-clause-long
returns-clause-long c = c.loop-place.invariant.long

pub returns-clause-each : goal.returns-clause-each
returns-clause-each c = c.loop-place.invariant.each
