use Rattle.std.proofs.Common.{refl}
use Rattle.ul_base.proofs.ForCallers.{first_next, none_next, none_at_all}
use Rattle.ul_region.specs.Truths.{region_at}
use Rattle.ul_split.specs.Split.{HasSplit}
use Rattle.ul_split.specs.Answers.{decided_of}
use Rattle.ul_split.proofs.Found.{listed, group_here, parts_moved}
use Rattle.ul_split.proofs.split.first_parting.Goals as goal

pub parting_at-requires-clause-one : goal.parting_at-requires-clause-one
parting_at-requires-clause-one c = listed c.args.algebra.now c.args.place.now.truths.now c.args.chosen.now c.loop-one.one-index c.one-item.result c.requires.chosen c.loop-one-test.true c.one-item.is

pub returns-in-Some : goal.returns-in-Some
returns-in-Some c = let p = parts_moved c.args.algebra.now (region_at c.args.place.now.region.now) (decided_of c.one-item.result) c.in_ok-truth.field-0 _ c.in-Some.is c.in_ok-truth.ensures in (
  decided_of c.one-item.result,
  first_next decided_of (HasSplit (region_at c.args.place.now.region.now)) c.args.chosen.now c.args.chosen.now c.loop-one.one-index c.one-item.result refl c.loop-one-test.true c.one-item.is c.loop-one.invariant
      (group_here c.args.algebra.now (region_at c.args.place.now.region.now) (decided_of c.one-item.result) c.in-Some.truth p),
  p,
)

pub loop-one-preserved : goal.loop-one-preserved
loop-one-preserved c = none_next decided_of (HasSplit (region_at c.args.place.now.region.now)) c.args.chosen.now c.loop-one.one-index c.one-item.result c.loop-one-test.true c.one-item.is c.loop-one.invariant
    (parts_moved c.args.algebra.now (region_at c.args.place.now.region.now) (decided_of c.one-item.result) c.in_ok-truth.field-0 _ c.in_default.is c.in_ok-truth.ensures)

pub returns : goal.returns
returns c = none_at_all decided_of (HasSplit (region_at c.args.place.now.region.now)) c.args.chosen.now c.loop-one.one-index c.loop-one-test.false c.loop-one.invariant
