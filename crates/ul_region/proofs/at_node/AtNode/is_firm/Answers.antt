use Rattle.ul_region.specs.Asked.{asked_of, region_asked}
use Rattle.ul_region.proofs.Firsts.{fails}
use Rattle.ul_region.proofs.AskedFacts.{applied_at, firm_decided, not_firm}
use Rattle.ul_region.proofs.at_node.AtNode.is_firm.Goals as goal

pub is_parted-parted-requires-clause-applied : goal.is_parted-parted-requires-clause-applied
is_parted-parted-requires-clause-applied c = c.is_applied.ensures.0 c.if-not-is_applied.false

pub returns-then-not-is_applied : goal.returns-then-not-is_applied
returns-then-not-is_applied c = not_firm (asked_of c.args.self.now) (region_asked c.args.self.now) c.args.self.now.node.now c.args.one.now.requirement.now
    (fails _ c.is_applied.result c.is_applied.ensures c.if-not-is_applied.true)

pub returns : goal.returns
returns c = firm_decided (asked_of c.args.self.now) (region_asked c.args.self.now) c.args.self.now.node.now c.args.one.now.requirement.now c.is_parted-parted.result
    (applied_at c.args.algebra.now c.args.self.now c.args.one.now c.requires.whole c.requires.one (c.is_applied.ensures.0 c.if-not-is_applied.false)) c.is_parted-parted.ensures
