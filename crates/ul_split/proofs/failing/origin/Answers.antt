use Rattle.std.proofs.Common.{◌-◌, arith, map}
use Rattle.ul_requirement.specs.Fields.{RequirementFields}
use Rattle.ul_index.specs.Applied.{IsFirm}
use Rattle.ul_region.specs.Asked.{asked_of, region_asked}
use Rattle.ul_region.specs.Rows.{requirement_of}
use Rattle.ul_region.proofs.ForCallers.{fails, item_in}
use Rattle.ul_split.proofs.FailingFacts.{from_lean, from_whole, long_here, rest_here}
use Rattle.ul_split.proofs.Origins.{left_here, left_none, left_passed, left_skipped}
use Rattle.ul_split.proofs.failing.origin.Goals as goal

pub loop-one-preserved-then-not-is_firm : goal.loop-one-preserved-then-not-is_firm
loop-one-preserved-then-not-is_firm c =
    let P : RequirementFields → Type 0 = IsFirm (asked_of c.args.at_node.now) (region_asked c.args.at_node.now) c.args.at_node.now.node.now in
    left_skipped P (map requirement_of c.args.at_node.now.row.now.asked) c.args.place c.loop-one.one-index c.one-item.result.requirement.now
    (rest_here c.args.at_node.now.row.now.asked c.as_slice-asked.result.now c.loop-one.one-index c.one-item.result c.as_slice-asked.ensures c.loop-one-test.true c.one-item.is)
    c.loop-one.left (fails (P c.one-item.result.requirement.now) c.is_firm.result c.is_firm.ensures c.if-not-is_firm.true) c.loop-one.invariant

pub returns-then-left-extras : goal.returns-then-left-extras
returns-then-left-extras c =
    let P : RequirementFields → Type 0 = IsFirm (asked_of c.args.at_node.now) (region_asked c.args.at_node.now) c.args.at_node.now.node.now in
    let count = c.extra_count-extras.ensures in
    let few = c.if-left-extras.true in (
      item_in c.args.at_node.now.row.now.asked c.as_slice-asked.result.now c.loop-one.one-index c.one-item.result c.as_slice-asked.ensures c.loop-one-test.true c.one-item.is,
      from_lean c.unnamed_never_applies.ensures c.args.algebra.now c.args.at_node.now c.args.place c.one-item.result.requirement.now c.requires
          (left_here P (map requirement_of c.args.at_node.now.row.now.asked) c.args.place c.loop-one.one-index c.one-item.result.requirement.now
          (rest_here c.args.at_node.now.row.now.asked c.as_slice-asked.result.now c.loop-one.one-index c.one-item.result c.as_slice-asked.ensures c.loop-one-test.true c.one-item.is)
          c.loop-one.left (c.is_firm.ensures.0 c.if-not-is_firm.false) (omega (arith, count, few)) c.loop-one.invariant),
    )

pub loop-one-preserved : goal.loop-one-preserved
loop-one-preserved c =
    let P : RequirementFields → Type 0 = IsFirm (asked_of c.args.at_node.now) (region_asked c.args.at_node.now) c.args.at_node.now.node.now in
    let count = c.extra_count-extras.ensures in
    let many = c.if-left-extras.false in
    left_passed P (map requirement_of c.args.at_node.now.row.now.asked) c.args.place c.loop-one.one-index c.one-item.result.requirement.now
    (rest_here c.args.at_node.now.row.now.asked c.as_slice-asked.result.now c.loop-one.one-index c.one-item.result c.as_slice-asked.ensures c.loop-one-test.true c.one-item.is)
    c.loop-one.left (c.loop-one.left - c.extra_count-extras.result - 1) (c.is_firm.ensures.0 c.if-not-is_firm.false) (omega (arith, count, many)) c.loop-one.invariant

pub returns : goal.returns
returns c =
    let P : RequirementFields → Type 0 = IsFirm (asked_of c.args.at_node.now) (region_asked c.args.at_node.now) c.args.at_node.now.node.now in
    λ q from. left_none P (map requirement_of c.args.at_node.now.row.now.asked) c.args.place c.loop-one.one-index c.loop-one.left
    (long_here c.args.at_node.now.row.now.asked c.as_slice-asked.result.now c.loop-one.one-index c.as_slice-asked.ensures c.loop-one-test.false)
    c.loop-one.invariant q (from_whole c.unnamed_never_applies.ensures c.args.algebra.now c.args.at_node.now c.args.place q c.requires from)
