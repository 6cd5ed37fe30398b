use Rattle.ul_requirement.specs.Fields.{RequirementFields}
use Rattle.ul_region.specs.Asked.{IsOther, asked_of, region_asked}
use Rattle.ul_region.proofs.Firsts.{fails, item_in, walk_begins, walk_ends, walk_more, walk_rises}
use Rattle.ul_region.proofs.AskedFacts.{applied_at, group_of, listed_at, other_alike, parted_so, parted_not}
use Rattle.ul_region.proofs.AskedLists.{may_be, none_asked}
use Rattle.ul_region.proofs.at_node.AtNode.is_parted.Goals as goal

pub is_other-requires-clause-other : goal.is_other-requires-clause-other
is_other-requires-clause-other c = item_in c.args.self.now.row.now.asked c.as_slice-asked.result.now c.loop-place.place c.index-asked-place.result c.as_slice-asked.ensures c.loop-place-test.true c.index-asked-place.is

pub returns-then-is_other : goal.returns-then-is_other
returns-then-is_other c = parted_so (asked_of c.args.self.now) (region_asked c.args.self.now) c.args.self.now.node.now c.args.one.now.requirement.now
    (group_of (asked_of c.args.self.now) (region_asked c.args.self.now) c.args.self.now.node.now c.args.one.now.requirement.now c.index-asked-place.result.requirement.now
    (applied_at c.args.algebra.now c.args.self.now c.args.one.now c.requires.whole c.requires.one c.requires.applied)
    (listed_at c.args.algebra.now c.args.self.now c.index-asked-place.result c.requires.whole (item_in c.args.self.now.row.now.asked c.as_slice-asked.result.now c.loop-place.place c.index-asked-place.result c.as_slice-asked.ensures c.loop-place-test.true c.index-asked-place.is))
    (c.is_other.ensures.0 c.if-is_other.true))

pub loop-place-init : goal.loop-place-init
loop-place-init c = walk_begins (IsOther (region_asked c.args.self.now) c.args.self.now.node.now c.args.one.now.requirement.now) c.args.self.now.row.now.asked c.args.one.now c.requires.whole.row.are.linked c.requires.one
    (λ b i o. (c.requires.whole.row.are.numbered b c.args.one.now i c.requires.one).1 o.named)

pub loop-place-preserved : goal.loop-place-preserved
loop-place-preserved c = let P = λ (q : RequirementFields). IsOther (region_asked c.args.self.now) c.args.self.now.node.now c.args.one.now.requirement.now q in
    walk_more P c.args.self.now.row.now.asked c.as_slice-asked.result.now c.args.one.now.name c.loop-place.place c.index-asked-place.result c.requires.whole.row.are.linked (other_alike c.args.algebra.now c.args.self.now c.args.one.now.requirement.now c.requires.whole)
    (λ b i o. (c.requires.whole.row.are.numbered b c.args.one.now i c.requires.one).1 o.named)
    c.as_slice-asked.ensures c.loop-place-test.true c.index-asked-place.is
    (fails (P c.index-asked-place.result.requirement.now) c.is_other.result c.is_other.ensures c.if-is_other.false) c.loop-place.invariant

pub loop-place-smaller : goal.loop-place-smaller
loop-place-smaller c = walk_rises (IsOther (region_asked c.args.self.now) c.args.self.now.node.now c.args.one.now.requirement.now) c.args.self.now.row.now.asked c.as_slice-asked.result.now c.args.one.now.name c.loop-place.place c.index-asked-place.result c.requires.whole.row.are.linked
    c.as_slice-asked.ensures c.loop-place-test.true c.index-asked-place.is c.loop-place.invariant

pub returns : goal.returns
returns c = let P = λ (q : RequirementFields). IsOther (region_asked c.args.self.now) c.args.self.now.node.now c.args.one.now.requirement.now q in
    parted_not (asked_of c.args.self.now) (region_asked c.args.self.now) c.args.self.now.node.now c.args.one.now.requirement.now
    (none_asked c.args.algebra.now c.args.self.now.node.now c.args.self.now.place.now.truths.now (asked_of c.args.self.now) c.args.self.now.row.now.asked P c.requires.whole.row.are
    (λ q o. may_be c.unnamed_never_applies.ensures c.args.self.now.node.now (region_asked c.args.self.now) q o.somewhere)
    (walk_ends P c.args.self.now.row.now.asked c.as_slice-asked.result.now c.args.one.now.name c.loop-place.place c.as_slice-asked.ensures c.loop-place-test.false c.loop-place.invariant))
