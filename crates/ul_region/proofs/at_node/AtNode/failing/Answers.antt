use Rattle.ul_requirement.specs.Fields.{RequirementFields}
use Rattle.ul_base.proofs.ForCallers.{first_next}
use Rattle.ul_region.specs.Rows.{requirement_of}
use Rattle.ul_region.specs.Asked.{asked_of, region_asked}
use Rattle.ul_region.specs.Groups.{FailsIn}
use Rattle.ul_region.proofs.Firsts.{none_so_far, none_at_end, item_in, fails}
use Rattle.ul_region.proofs.AskedLists.{first_asked, may_be, none_asked}
use Rattle.ul_region.proofs.at_node.AtNode.failing.Goals as goal

pub is_failing-requires-clause-one : goal.is_failing-requires-clause-one
is_failing-requires-clause-one c = item_in c.args.self.now.row.now.asked c.as_slice-one-items.result.now c.loop-one.one-index c.one-item.result c.as_slice-one-items.ensures c.loop-one-test.true c.one-item.is

pub returns-then-is_failing : goal.returns-then-is_failing
returns-then-is_failing c = let P = λ (q : RequirementFields). FailsIn (asked_of c.args.self.now) (region_asked c.args.self.now) c.args.self.now.node.now c.args.opener.now.requirement.now.name q in (
  item_in c.args.self.now.row.now.asked c.as_slice-one-items.result.now c.loop-one.one-index c.one-item.result c.as_slice-one-items.ensures c.loop-one-test.true c.one-item.is,
  first_asked c.args.algebra.now c.args.self.now.node.now c.args.self.now.place.now.truths.now (asked_of c.args.self.now) c.args.self.now.row.now.asked P c.one-item.result.requirement.now c.requires.whole.row.are
      (λ q p. may_be c.unnamed_never_applies.ensures c.args.self.now.node.now (region_asked c.args.self.now) q p.applied.somewhere)
      (first_next requirement_of P c.args.self.now.row.now.asked c.as_slice-one-items.result.now c.loop-one.one-index c.one-item.result
      c.as_slice-one-items.ensures c.loop-one-test.true c.one-item.is c.loop-one.invariant (c.is_failing.ensures.0 c.if-is_failing.true)),
)

pub loop-one-preserved : goal.loop-one-preserved
loop-one-preserved c = let P = λ (q : RequirementFields). FailsIn (asked_of c.args.self.now) (region_asked c.args.self.now) c.args.self.now.node.now c.args.opener.now.requirement.now.name q in
    none_so_far P c.args.self.now.row.now.asked c.as_slice-one-items.result.now c.loop-one.one-index c.one-item.result c.as_slice-one-items.ensures c.loop-one-test.true c.one-item.is c.loop-one.invariant
    (fails (P c.one-item.result.requirement.now) c.is_failing.result c.is_failing.ensures c.if-is_failing.false)

pub returns : goal.returns
returns c = let P = λ (q : RequirementFields). FailsIn (asked_of c.args.self.now) (region_asked c.args.self.now) c.args.self.now.node.now c.args.opener.now.requirement.now.name q in
    none_asked c.args.algebra.now c.args.self.now.node.now c.args.self.now.place.now.truths.now (asked_of c.args.self.now) c.args.self.now.row.now.asked P c.requires.whole.row.are
    (λ q p. may_be c.unnamed_never_applies.ensures c.args.self.now.node.now (region_asked c.args.self.now) q p.applied.somewhere)
    (none_at_end P c.args.self.now.row.now.asked c.as_slice-one-items.result.now c.loop-one.one-index c.as_slice-one-items.ensures c.loop-one-test.false c.loop-one.invariant)
