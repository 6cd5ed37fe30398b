use Rattle.ul_requirement.specs.Truth.{applies_at}
use Rattle.ul_region.specs.Asked.{asked_of, region_asked}
use Rattle.ul_region.specs.Groups.{InSplit, FailsIn}
use Rattle.ul_region.proofs.AskedFacts.{asked_at, truth_place, read_at, at_none, at_some, no_opener, no_failing, parts_by}
use Rattle.ul_region.proofs.at_node.AtNode.parting.Goals as goal

pub failing-requires-clause-opener : goal.failing-requires-clause-opener
failing-requires-clause-opener c = (at_some c.args.self.now.row.now.asked (asked_of c.args.self.now) (InSplit (asked_of c.args.self.now) (region_asked c.args.self.now) c.args.self.now.node.now) c.opener.result c.in-Some.opener c.in-Some.is c.opener.ensures).0

pub returns-in_default : goal.returns-in_default
returns-in_default c = no_opener (asked_of c.args.self.now) (region_asked c.args.self.now) c.args.self.now.node.now
    (at_none c.args.self.now.row.now.asked (asked_of c.args.self.now) (InSplit (asked_of c.args.self.now) (region_asked c.args.self.now) c.args.self.now.node.now) c.opener.result c.in_default.is c.opener.ensures)

pub returns-in_default-failing : goal.returns-in_default-failing
returns-in_default-failing c = absurd (no_failing (asked_of c.args.self.now) (region_asked c.args.self.now) c.args.self.now.node.now c.in-Some.opener.now.requirement.now
    (at_some c.args.self.now.row.now.asked (asked_of c.args.self.now) (InSplit (asked_of c.args.self.now) (region_asked c.args.self.now) c.args.self.now.node.now) c.opener.result c.in-Some.opener c.in-Some.is c.opener.ensures).1
    (at_none c.args.self.now.row.now.asked (asked_of c.args.self.now) (FailsIn (asked_of c.args.self.now) (region_asked c.args.self.now) c.args.self.now.node.now c.in-Some.opener.now.requirement.now.name) c.failing.result c.in_default-failing.is c.failing.ensures))

pub returns : goal.returns
returns c = let found = at_some c.args.self.now.row.now.asked (asked_of c.args.self.now) (FailsIn (asked_of c.args.self.now) (region_asked c.args.self.now) c.args.self.now.node.now c.in-Some.opener.now.requirement.now.name) c.failing.result c.in-Some-failing.found c.in-Some-failing.is c.failing.ensures in
    parts_by c.args.algebra.now (asked_of c.args.self.now) (region_asked c.args.self.now) c.args.self.now.node.now c.in-Some.opener.now.requirement.now c.in-Some-failing.found.now.requirement.now c.truth_held.result
    (at_some c.args.self.now.row.now.asked (asked_of c.args.self.now) (InSplit (asked_of c.args.self.now) (region_asked c.args.self.now) c.args.self.now.node.now) c.opener.result c.in-Some.opener c.in-Some.is c.opener.ensures).1
    found.1 (read_at c.args.algebra.now c.args.self.now.place.now.truths.now c.in-Some-failing.found.now.truth c.truth_held.result.now (applies_at c.in-Some-failing.found.now.requirement.now c.args.self.now.node.now)
    (asked_at c.args.algebra.now c.args.self.now c.in-Some-failing.found.now c.requires found.0) c.truth_held.ensures)

pub truth_held-requires : goal.truth_held-requires
truth_held-requires c = truth_place c.args.algebra.now c.args.self.now c.in-Some-failing.found.now c.requires
    (at_some c.args.self.now.row.now.asked (asked_of c.args.self.now) (FailsIn (asked_of c.args.self.now) (region_asked c.args.self.now) c.args.self.now.node.now c.in-Some.opener.now.requirement.now.name) c.failing.result c.in-Some-failing.found c.in-Some-failing.is c.failing.ensures).0
