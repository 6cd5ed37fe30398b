use Rattle.ul_requirement.specs.Truth.{applies_at}
use Rattle.ul_region.specs.Asked.{region_asked}
use Rattle.ul_region.proofs.ForCallers.{asked_at, throughout_decided}
use Rattle.ul_split.proofs.failing.fails_somewhere.Goals as goal

pub returns : goal.returns
returns c = throughout_decided c.args.algebra.now c.holds_at-within.result.now c.args.at_node.now.place.now.region.now (region_asked c.args.at_node.now) (applies_at c.args.one.now.requirement.now c.args.at_node.now.node.now)
    (c.holds_at-within.ensures c.args.algebra.now c.requires.whole.place (applies_at c.args.one.now.requirement.now c.args.at_node.now.node.now) (asked_at c.args.algebra.now c.args.at_node.now c.args.one.now c.requires.whole c.requires.one))
    c.requires.whole.place.region c.same.result c.same.ensures.tree
