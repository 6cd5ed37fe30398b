use Rattle.std.proofs.Common.{refl, sym}
use Rattle.ul_base.proofs.ForCallers.{first_next, none_next, none_at_all}
use Rattle.ul_region.specs.Truths.{region_at}
use Rattle.ul_split.specs.Split.{IsUnfit}
use Rattle.ul_split.specs.Answers.{decided_of}
use Rattle.ul_split.proofs.Found.{listed, fails}
use Rattle.ul_split.proofs.split.first_unfit.Goals as goal

pub is_unfit-requires-clause-one : goal.is_unfit-requires-clause-one
is_unfit-requires-clause-one c = listed c.args.algebra.now c.args.place.now.truths.now c.args.chosen.now c.loop-one.one-index c.one-item.result c.requires.chosen c.loop-one-test.true c.one-item.is

pub returns-then-is_unfit : goal.returns-then-is_unfit
returns-then-is_unfit c = (
  (c.loop-one.one-index, c.loop-one-test.true, sym c.one-item.is),
  first_next decided_of (IsUnfit (region_at c.args.place.now.region.now)) c.args.chosen.now c.args.chosen.now c.loop-one.one-index c.one-item.result refl c.loop-one-test.true c.one-item.is c.loop-one.invariant (c.is_unfit.ensures.0 c.if-is_unfit.true),
)

pub loop-one-preserved : goal.loop-one-preserved
loop-one-preserved c = none_next decided_of (IsUnfit (region_at c.args.place.now.region.now)) c.args.chosen.now c.loop-one.one-index c.one-item.result c.loop-one-test.true c.one-item.is c.loop-one.invariant
    (fails (IsUnfit (region_at c.args.place.now.region.now) (decided_of c.one-item.result)) c.is_unfit.result c.is_unfit.ensures c.if-is_unfit.false)

pub returns : goal.returns
returns c = none_at_all decided_of (IsUnfit (region_at c.args.place.now.region.now)) c.args.chosen.now c.loop-one.one-index c.loop-one-test.false c.loop-one.invariant
