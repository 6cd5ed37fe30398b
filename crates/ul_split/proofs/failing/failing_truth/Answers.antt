use Rattle.std.proofs.lemmas.Option.{slice_get_within}
use Rattle.ul_requirement.specs.Truth.{applies_at}
use Rattle.ul_region.specs.Asked.{region_asked}
use Rattle.ul_region.proofs.ForCallers.{asked_at, read_at}
use Rattle.ul_split.proofs.FailingFacts.{fails_nowhere, fails_there, found_asked, throughout}
use Rattle.ul_split.proofs.failing.failing_truth.Goals as goal

pub returns-then-not-fails_somewhere : goal.returns-then-not-fails_somewhere
returns-then-not-fails_somewhere c =
    fails_nowhere c.args.algebra.now c.args.at_node.now c.args.place c.origin.result c.in-Some.one c.in-Some.is c.origin.ensures
    (throughout (region_asked c.args.at_node.now) (applies_at c.in-Some.one.now.requirement.now c.args.at_node.now.node.now) c.fails_somewhere.result c.fails_somewhere.ensures c.if-not-fails_somewhere.true)

pub truth_held-requires : goal.truth_held-requires
truth_held-requires c =
    let t = asked_at c.args.algebra.now c.args.at_node.now c.in-Some.one.now c.requires (found_asked c.args.at_node.now c.args.place c.origin.result c.in-Some.one c.in-Some.is c.origin.ensures) in
    slice_get_within c.args.at_node.now.place.now.truths.now c.in-Some.one.now.truth t.mark t.at

pub returns : goal.returns
returns c =
    let asked = found_asked c.args.at_node.now c.args.place c.origin.result c.in-Some.one c.in-Some.is c.origin.ensures in
    fails_there c.args.algebra.now c.args.at_node.now c.args.place c.origin.result c.in-Some.one c.truth_held.result c.in-Some.is c.origin.ensures
    (c.fails_somewhere.ensures.0 c.if-not-fails_somewhere.false)
    (read_at c.args.algebra.now c.args.at_node.now.place.now.truths.now c.in-Some.one.now.truth c.truth_held.result.now (applies_at c.in-Some.one.now.requirement.now c.args.at_node.now.node.now)
    (asked_at c.args.algebra.now c.args.at_node.now c.in-Some.one.now c.requires asked) c.truth_held.ensures)
