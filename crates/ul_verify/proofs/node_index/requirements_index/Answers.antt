use Rattle.ul_requirement.specs.Truth.{targets}
use Rattle.ul_verify.proofs.IndexFacts.{entries_more, indexed, no_entries}
use Rattle.ul_verify.proofs.node_index.requirements_index.Goals as goal

pub loop-place-init : goal.loop-place-init
loop-place-init c = no_entries targets c.args.requirements.now _ c.in_ok-entries.ensures.items

pub loop-place-preserved : goal.loop-place-preserved
loop-place-preserved c = entries_more targets c.args.requirements.now c.loop-place.place _ _ _ c.loop-place-test.true c.index-requirements-place.is c.in_ok-put_targets.ensures c.loop-place.invariant

pub returns : goal.returns
returns c = indexed targets c.args.requirements.now c.loop-place.place _ c.of.result c.loop-place-test.false c.loop-place.invariant c.of.ensures.same c.of.ensures.sorted
