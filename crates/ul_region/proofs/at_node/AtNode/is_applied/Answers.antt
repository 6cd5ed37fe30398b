use Rattle.ul_requirement.specs.Truth.{applies_at}
use Rattle.ul_region.specs.Asked.{region_asked}
use Rattle.ul_region.proofs.Existing.{somewhere_decided}
use Rattle.ul_region.proofs.AskedFacts.{asked_at, asked_place}
use Rattle.ul_region.proofs.at_node.AtNode.is_applied.Goals as goal

pub holds_at-within-requires : goal.holds_at-within-requires
holds_at-within-requires c = asked_place c.args.algebra.now c.args.self.now c.args.one.now c.requires.whole c.requires.listed

pub is_false-requires : goal.is_false-requires
is_false-requires c = record { a = (c.holds_at-within.ensures c.args.algebra.now c.requires.whole.place (applies_at c.args.one.now.requirement.now c.args.self.now.node.now) (asked_at c.args.algebra.now c.args.self.now c.args.one.now c.requires.whole c.requires.listed)).diagram }

pub returns : goal.returns
returns c = somewhere_decided c.args.algebra.now c.holds_at-within.result.now (region_asked c.args.self.now) (applies_at c.args.one.now.requirement.now c.args.self.now.node.now)
    (c.holds_at-within.ensures c.args.algebra.now c.requires.whole.place (applies_at c.args.one.now.requirement.now c.args.self.now.node.now) (asked_at c.args.algebra.now c.args.self.now c.args.one.now c.requires.whole c.requires.listed)) c.is_false.result c.is_false.ensures
