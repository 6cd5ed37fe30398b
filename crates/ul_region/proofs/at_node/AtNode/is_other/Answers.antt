use Rattle.ul_requirement.specs.Truth.{applies_at}
use Rattle.ul_region.specs.Asked.{region_asked}
use Rattle.ul_region.proofs.Existing.{apart_decided}
use Rattle.ul_region.proofs.Firsts.{fails}
use Rattle.ul_region.proofs.AskedFacts.{asked_at, asked_place, other_decided, not_other_name, not_other_applied}
use Rattle.ul_region.proofs.at_node.AtNode.is_other.Goals as goal

pub holds_at-mine-requires : goal.holds_at-mine-requires
holds_at-mine-requires c = asked_place c.args.algebra.now c.args.self.now c.args.one.now c.requires.whole c.requires.one

pub holds_at-theirs-requires : goal.holds_at-theirs-requires
holds_at-theirs-requires c = asked_place c.args.algebra.now c.args.self.now c.args.other.now c.requires.whole c.requires.other

pub same-requires-clause-a : goal.same-requires-clause-a
same-requires-clause-a c = (c.holds_at-mine.ensures c.args.algebra.now c.requires.whole.place (applies_at c.args.one.now.requirement.now c.args.self.now.node.now) (asked_at c.args.algebra.now c.args.self.now c.args.one.now c.requires.whole c.requires.one)).diagram

pub same-requires-clause-b : goal.same-requires-clause-b
same-requires-clause-b c = (c.holds_at-theirs.ensures c.args.algebra.now c.requires.whole.place (applies_at c.args.other.now.requirement.now c.args.self.now.node.now) (asked_at c.args.algebra.now c.args.self.now c.args.other.now c.requires.whole c.requires.other)).diagram

pub returns-then-other-one : goal.returns-then-other-one
returns-then-other-one c = not_other_name (region_asked c.args.self.now) c.args.self.now.node.now c.args.one.now.requirement.now c.args.other.now.requirement.now
    (λ e. c.if-other-one.true ((c.requires.whole.row.are.numbered c.args.other.now c.args.one.now c.requires.other c.requires.one).1 e))

pub returns-then-not-is_applied : goal.returns-then-not-is_applied
returns-then-not-is_applied c = not_other_applied (region_asked c.args.self.now) c.args.self.now.node.now c.args.one.now.requirement.now c.args.other.now.requirement.now
    (fails _ c.is_applied.result c.is_applied.ensures c.if-not-is_applied.true)

pub returns : goal.returns
returns c = other_decided (region_asked c.args.self.now) c.args.self.now.node.now c.args.one.now.requirement.now c.args.other.now.requirement.now
    (c.is_applied.ensures.0 c.if-not-is_applied.false)
    ((c.requires.whole.row.are.numbered c.args.other.now c.args.one.now c.requires.other c.requires.one).0 c.if-other-one.false) _
    (apart_decided c.args.algebra.now c.holds_at-mine.result.now c.holds_at-theirs.result.now (region_asked c.args.self.now) (applies_at c.args.one.now.requirement.now c.args.self.now.node.now) (applies_at c.args.other.now.requirement.now c.args.self.now.node.now)
    (c.holds_at-mine.ensures c.args.algebra.now c.requires.whole.place (applies_at c.args.one.now.requirement.now c.args.self.now.node.now) (asked_at c.args.algebra.now c.args.self.now c.args.one.now c.requires.whole c.requires.one))
    (c.holds_at-theirs.ensures c.args.algebra.now c.requires.whole.place (applies_at c.args.other.now.requirement.now c.args.self.now.node.now) (asked_at c.args.algebra.now c.args.self.now c.args.other.now c.requires.whole c.requires.other))
    c.same.result c.same.ensures.tree)
