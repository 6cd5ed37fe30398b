use Rattle.ul_requirement.specs.Truth.{applies_at}
use Rattle.ul_region.specs.Asked.{asked_of, region_asked}
use Rattle.ul_region.proofs.Existing.{throughout_decided}
use Rattle.ul_region.proofs.Firsts.{fails}
use Rattle.ul_region.proofs.AskedFacts.{asked_at, asked_place, applied_at, failing_decided, not_failing_name, not_failing_applied}
use Rattle.ul_region.proofs.at_node.AtNode.is_failing.Goals as goal

pub holds_at-within-requires : goal.holds_at-within-requires
holds_at-within-requires c = asked_place c.args.algebra.now c.args.self.now c.args.one.now c.requires.whole c.requires.one

pub same-requires-clause-a : goal.same-requires-clause-a
same-requires-clause-a c = (c.holds_at-within.ensures c.args.algebra.now c.requires.whole.place (applies_at c.args.one.now.requirement.now c.args.self.now.node.now) (asked_at c.args.algebra.now c.args.self.now c.args.one.now c.requires.whole c.requires.one)).diagram

pub same-requires-clause-b : goal.same-requires-clause-b
same-requires-clause-b c = c.requires.whole.place.region.diagram

pub returns-then-one-opener : goal.returns-then-one-opener
returns-then-one-opener c = not_failing_name (asked_of c.args.self.now) (region_asked c.args.self.now) c.args.self.now.node.now c.args.opener.now.requirement.now.name c.args.one.now.requirement.now
    (λ e. c.if-one-opener.true ((c.requires.whole.row.are.numbered c.args.one.now c.args.opener.now c.requires.one c.requires.opener).1 e))

pub returns-then-not-is_applied : goal.returns-then-not-is_applied
returns-then-not-is_applied c = not_failing_applied (asked_of c.args.self.now) (region_asked c.args.self.now) c.args.self.now.node.now c.args.opener.now.requirement.now.name c.args.one.now.requirement.now
    (fails _ c.is_applied.result c.is_applied.ensures c.if-not-is_applied.true)

pub returns : goal.returns
returns c = failing_decided (asked_of c.args.self.now) (region_asked c.args.self.now) c.args.self.now.node.now c.args.opener.now.requirement.now.name c.args.one.now.requirement.now _
    (applied_at c.args.algebra.now c.args.self.now c.args.one.now c.requires.whole c.requires.one (c.is_applied.ensures.0 c.if-not-is_applied.false))
    ((c.requires.whole.row.are.numbered c.args.one.now c.args.opener.now c.requires.one c.requires.opener).0 c.if-one-opener.false)
    (throughout_decided c.args.algebra.now c.holds_at-within.result.now c.args.self.now.place.now.region.now (region_asked c.args.self.now) (applies_at c.args.one.now.requirement.now c.args.self.now.node.now)
    (c.holds_at-within.ensures c.args.algebra.now c.requires.whole.place (applies_at c.args.one.now.requirement.now c.args.self.now.node.now) (asked_at c.args.algebra.now c.args.self.now c.args.one.now c.requires.whole c.requires.one))
    c.requires.whole.place.region c.same.result c.same.ensures.tree)
